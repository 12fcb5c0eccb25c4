use Rattle.std.proofs.Common.{◌≡◌, ◌∷◌, [], ℕ, not, ◌&&◌}
use Rattle.std.specs.Prelude.{nat_lt}
use Rattle.label.specs.Labels.{on}
use Rattle.outbox.specs.Masks.{has_bit}
use Rattle.outbox.proofs.receivers.Receivers.others.Given as goal

abbrev pub invariant-loop-general : goal.invariant-loop-general
invariant-loop-general l = (n : ℕ) → has_bit l.mask n ≡ (nat_lt n l.general && not (on (l.fn.first ∷ l.fn.second ∷ []) n))
