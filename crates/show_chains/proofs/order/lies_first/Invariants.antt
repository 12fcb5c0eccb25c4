use Rattle.std.proofs.Common.{◌≡◌, [], not}
use Rattle.std.specs.Prelude.{filter}
use Rattle.show_diagram.specs.Order.{firsts, is_by_one, repeats}
use Rattle.show_chains.specs.Strokes.{is_lie, sender}
use Rattle.show_chains.proofs.order.lies_first.Given as goal

-- The strokes so far are distributed to the three lists.
abbrev pub invariant-loop-stroke : goal.invariant-loop-stroke
invariant-loop-stroke l =
    (l.rows.items ≡ firsts (is_by_one sender) [] (filter is_lie l.yielded))
    × (l.others.items ≡ repeats (is_by_one sender) [] (filter is_lie l.yielded))
    × (l.honest.items ≡ filter (λ x. not (is_lie x)) l.yielded)
