use Rattle.std.proofs.Common.{ℕ, ◌≤◌, ◌≡◌, length, get_or}
use Rattle.verify.proofs.TableLemmas.{Joins}
use Rattle.verify.proofs.registers.join.Given as goal
use Rattle.absval.specs.declared.value.AbsVal.TheVariants.{Unset}

abbrev pub invariant-loop-i : goal.invariant-loop-i
invariant-loop-i l = record {
  size : length l.registers ≡ 11;
  rest : (k : ℕ) → l.i ≤ k → get_or l.registers k Unset ≡ get_or l.fn.registers k Unset;
  exact : Joins l.fn.registers l.other l.registers l.i;
}
