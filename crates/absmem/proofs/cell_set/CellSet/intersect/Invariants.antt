use Rattle.std.proofs.Common.{◌≡◌, ◌<◌, ◌≤◌, ◌/◌, ◌&&◌, ℕ, List}
use Rattle.absmem.specs.Known.{byte_at}
use Rattle.absmem.specs.Members.{members, AreWords}
use Rattle.absmem.proofs.cell_set.CellSet.intersect.Given as goal

pub record Met (old other new : List ℕ) (number : ℕ) : Type 0 where
  pub kept : AreWords new
  pub done : (k : ℕ) → k / 64 < number → byte_at (members new) k ≡ (byte_at (members old) k && byte_at (members other) k)
  pub left : (k : ℕ) → number ≤ k / 64 → byte_at (members new) k ≡ byte_at (members old) k

abbrev pub invariant-loop-number : goal.invariant-loop-number
invariant-loop-number l = Met l.initial.self-inside.words l.other-inside.words l.self-inside.words l.number
