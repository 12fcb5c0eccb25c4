use Rattle.std.proofs.Common.{ℕ, ◌<◌, ◌≤◌, ◌≡◌, length}
use Rattle.absval.specs.NumberSets.{within}
use Rattle.reaching.proofs.transfer.put_result.Given as goal
use Rattle.absval.specs.declared.value.AbsVal.TheVariants.{Unset, Number}
use Rattle.verify.specs.Registers.{known_at}

abbrev pub invariant-loop-r : goal.invariant-loop-r
invariant-loop-r l = record {
  size : length l.registers ≡ 11;
  first : known_at l.registers 0 ≡ Number (within l.fn.range);
  unset : (k : ℕ) → 1 ≤ k → k < l.r → known_at l.registers k ≡ Unset;
  others : (k : ℕ) → 1 ≤ k → l.r ≤ k → known_at l.registers k ≡ known_at l.fn.registers k;
}
