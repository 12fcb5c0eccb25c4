use Rattle.show_chains.specs.Strokes.{list_to}
use Rattle.show_chains.proofs.StrokeLemmas.{round_more}
use Rattle.show_chains.proofs.strokes.push_round.Goals as goal

pub loop-receiver-preserved : goal.loop-receiver-preserved
loop-receiver-preserved c =
    round_more (list_to c.args.chronicle.now c.args.round) c.loop-receiver.receiver c.args.strokes.now.items c.loop-receiver.strokes.items c.append.new.self.items _ c.loop-receiver.invariant c.in_ok-list.ensures c.in_ok-append.ensures.items
