use Rattle.std.proofs.Common.{◌≡◌, ℕ, cond, take}
use Rattle.std.specs.Int.{bit_at}
use Rattle.label.specs.Labels.{on}
use Rattle.signed.proofs.sets.of.Given as goal

abbrev pub invariant-loop-general : goal.invariant-loop-general
invariant-loop-general l = (g : ℕ) → bit_at l.bits g ≡ cond (on (take l.general-index l.generals) g) 1 0
