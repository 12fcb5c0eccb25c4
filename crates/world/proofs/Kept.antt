-- What holds in every world of a run (own).
use Rattle.std.specs.Prelude.{ℕ, suc, ◌≡◌, ◌<◌, ◌≤◌, true, List, [], length, take, slice_index_or, slice_get, Option, None, Some}
use Rattle.insn.specs.declared.insn.Insn.{Insn}
use Rattle.board.specs.Board.{IsBoard}
use Rattle.round.specs.Scenario.{Scenario, program_of}
use Rattle.round.specs.Letters.{Letter, letter_of}
use Rattle.world.specs.Part.{Progress, Acting, Silent, Posted}
use Rattle.world.specs.Kind.{Kind, loyal_letter, World}

-- States that a traitor has an activation, and a loyal general has none.
abbrev pub Fits : Option (List Insn) → Progress → Type 0
Fits None (Acting a) = ⊥
Fits None Silent = Unit {0}
Fits None Posted = Unit {0}
Fits (Some program) (Acting a) = Unit {0}
Fits (Some program) Silent = ⊥
Fits (Some program) Posted = ⊥

module _ (K : Kind) where
  -- States that in each closed round the general's letter is that of a loyal one.
  abbrev pub Tells : Scenario → List (List Letter) → ℕ → Type 0
  Tells s closed g = (k : ℕ) → k < length closed → letter_of (slice_index_or closed k []) g ≡ Some (loyal_letter K s (take k closed) g)

  -- The invariant of a world.
  pub record IsKept (w : World) : Type 0 where
    pub parts : (g : ℕ) (part : Progress) → slice_get w.parts g ≡ Some part → (g < w.scenario.generals) × Fits (program_of w.scenario g) part
    pub open_parts : length w.closed < suc w.scenario.bound → length w.parts ≡ w.scenario.generals
    pub board : IsBoard w.words
    pub closed : length w.closed ≤ suc w.scenario.bound
    pub told : w.full ≡ true → (g : ℕ) → g < w.scenario.generals → program_of w.scenario g ≡ None → Tells w.scenario w.closed g
