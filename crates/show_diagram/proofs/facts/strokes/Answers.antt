use Rattle.std.proofs.Common.{[], ◌+◌}
use Rattle.show_diagram.specs.Facts.{tellings_of}
use Rattle.show_diagram.specs.Lists.{lists_to}
use Rattle.show_diagram.proofs.RowLemmas.{lists_more}
use Rattle.show_diagram.proofs.facts.strokes.Goals as goal

pub loop-receiver-preserved : goal.loop-receiver-preserved
loop-receiver-preserved g c =
    let t = g.H.Heard.seen c.args.table.now in
    lists_more (lists_to t.commander (t.bound + 1) (tellings_of t c.args.order)) c.loop-receiver.receiver [] c.loop-receiver.strokes.items c.push_received.new.strokes.items
    c.loop-receiver.invariant c.in_ok-push_received.ensures
