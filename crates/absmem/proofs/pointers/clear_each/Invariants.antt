use Rattle.std.proofs.Common.{◌≡◌, ◌<◌, ◌≤◌, ℕ, length, List}
use Rattle.absmem.specs.declared.spill.Spill.{Spill}
use Rattle.absmem.specs.Known.{spill_at, left_of}
use Rattle.absmem.proofs.pointers.clear_each.Given as goal

pub record Cleared (old new : List Spill) (place end first b : ℕ) : Type 0 where
  pub size : length new ≡ 64
  pub done : (j : ℕ) → first ≤ j → j < b → spill_at new j ≡ left_of place end j (spill_at old j)
  pub before : (j : ℕ) → j < first → spill_at new j ≡ spill_at old j
  pub left : (j : ℕ) → b ≤ j → spill_at new j ≡ spill_at old j

abbrev pub invariant-loop-b : goal.invariant-loop-b
invariant-loop-b l = Cleared l.initial.spills l.spills l.place l.end l.first l.b
