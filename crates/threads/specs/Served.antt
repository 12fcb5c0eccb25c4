-- The accesses that the board has served to one general, and which of them have passed a gate (own).
use Rattle.std.specs.Prelude.{ℕ, ◌≡◌, ◌==◌, ◌⊎◌, List, [], ◌∷◌, ◌++◌, All, length, count_by, flat_map}
use Rattle.board.specs.Board.{Access}
use Rattle.round.specs.Letters.{Letter}
use Rattle.shared_board.specs.Witnessed.{Witnessed}

-- States that the second list contains the accesses of the first, in the same order, and perhaps others between them.
abbrev pub AreAmong : List Access → List Access → Type 0
AreAmong [] all = Unit {0}
AreAmong (a ∷ made) [] = ⊥
AreAmong (a ∷ made) (b ∷ all) = ((a ≡ b) × AreAmong made all) ⊎ AreAmong (a ∷ made) all

-- States that each of these accesses has passed a gate. The gate counts a general's accesses of a round from 0,
-- beginning with those in `before`.
abbrev pub HavePassed : (ℕ → ℕ → ℕ → Type 0) → List Access → List Access → Type 0
HavePassed passed before [] = Unit {0}
HavePassed passed before (a ∷ made) = passed a.general a.round (count_by (λ b. b.round == a.round) before)
    × HavePassed passed (before ++ a ∷ []) made

-- States that each access in the letter has passed a gate, which counts the letter's accesses from 0.
abbrev pub IsGated : (ℕ → ℕ → ℕ → Type 0) → Letter → Type 0
IsGated passed l = HavePassed passed [] l.transcript

-- States that each access in all these letters has passed a gate. The letters are given by round.
abbrev pub AreGated : (ℕ → ℕ → ℕ → Type 0) → List (List Letter) → Type 0
AreGated passed rounds = All (λ letters. All (IsGated passed) letters) rounds

-- Returns the accesses in these letters' transcripts, letter by letter.
abbrev pub told_in : List Letter → List Access
told_in letters = flat_map (λ l. l.transcript) letters

-- The accesses that the board has served to a general, and the part of the board's history that he has seen.
pub record Served : Type 0 where
  pub made : List Access
  pub seen : List Access

-- States that exactly as many accesses as these were served through this witness, and that the history that it has seen
-- contains them in this order.
abbrev pub AreWitnessed : List Access → Witnessed → Type 0
AreWitnessed made w = AreAmong made w.seen × (w.made ≡ length made)
