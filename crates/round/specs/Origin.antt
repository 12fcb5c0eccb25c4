-- The campaign and round to which a letter belongs (own).
use Rattle.std.specs.Prelude.{ℕ, suc, ◌≡◌, List, slice_get, Some}
use Rattle.round.specs.Scenario.{Scenario, shape_of}
use Rattle.round.specs.Letters.{Letter}

-- States that all letters belong to this campaign and this round.
abbrev pub AreLettersOf : Scenario → ℕ → List Letter → Type 0
AreLettersOf s round letters = (i : ℕ) (l : Letter) → slice_get letters i ≡ Some l →
    (l.round ≡ round) × (l.outbox.relay.shape ≡ shape_of s l.general round)

-- States that the letters of each of these rounds belong to this campaign and to that round.
abbrev pub AreRoundsOf : Scenario → List (List Letter) → Type 0
AreRoundsOf s before =
    (i : ℕ) (letters : List Letter) → slice_get before i ≡ Some letters → AreLettersOf s (suc i) letters
