use Rattle.std.proofs.Common.{◌≡◌, ◌∷◌}
use Rattle.std.specs.Prelude.{nat_le}
use Rattle.std.specs.List.{list_all}
use Rattle.label.specs.Labels.{others}
use Rattle.show_tree.proofs.places.is_last.Given as goal

-- Whether no general so far comes after `teller`.
abbrev pub invariant-loop-other : goal.invariant-loop-other
invariant-loop-other l = l.is_last ≡ list_all (λ i. nat_le i l.teller) (others l.other (l.general ∷ l.before))
