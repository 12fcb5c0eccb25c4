use Rattle.std.proofs.Common.{◌≡◌, ◌<◌, ◌≤◌, ℕ, length, List}
use Rattle.absmem.specs.declared.spill.Spill.{Spill}
use Rattle.absmem.specs.Known.{spill_at, joined_spill}
use Rattle.absmem.proofs.pointers.join.Given as goal

pub record Joined (old other new : List Spill) (b : ℕ) : Type 0 where
  pub size : length new ≡ 64
  pub done : (j : ℕ) → j < b → spill_at new j ≡ joined_spill (spill_at old j) (spill_at other j)
  pub left : (j : ℕ) → b ≤ j → spill_at new j ≡ spill_at old j

abbrev pub invariant-loop-b : goal.invariant-loop-b
invariant-loop-b l = Joined l.initial.spills l.other l.spills l.b
