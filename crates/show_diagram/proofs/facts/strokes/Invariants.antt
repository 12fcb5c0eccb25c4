use Rattle.std.proofs.Common.{◌≡◌, ◌+◌}
use Rattle.std.specs.List.{flat_map, range_with_len}
use Rattle.show_diagram.specs.Facts.{tellings_of}
use Rattle.show_diagram.specs.Lists.{lists_to}
use Rattle.show_diagram.proofs.facts.strokes.Given as goal

-- The strokes to the receivers so far.
abbrev pub invariant-loop-receiver : goal.invariant-loop-receiver
invariant-loop-receiver g l =
    let t = g.H.Heard.seen l.table in
    l.strokes.items ≡ flat_map (lists_to t.commander (t.bound + 1) (tellings_of t l.order)) (range_with_len 0 l.receiver)
