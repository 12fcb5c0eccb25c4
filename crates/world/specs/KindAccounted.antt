-- Letters for which a ledger accounts, in oral or signed campaigns (own).
use Rattle.std.specs.Prelude.{ℕ, suc, ◌≡◌, ◌<◌, ◌*◌, ◌==◌, ◌&&◌, ◌||◌, true, List, [], ◌∷◌, ◌++◌, All, length, take, drop, find, sum_by, slice_get, Option, None, Some, option_to_list}
use Rattle.insn.specs.declared.insn.Insn.{Insn}
use Rattle.board.specs.Board.{Access}
use Rattle.round.specs.Scenario.{Scenario, program_of}
use Rattle.round.specs.Letters.{Letter}
use Rattle.round.specs.Activation.{Activation, started, is_reached}
use Rattle.round.specs.Runs.{Runs, IsWithin}
use Rattle.world.specs.Kind.{Kind, accesses_of, each, traitor_letter_with, loyal_letter}

-- States that this is the letter of a general in the round after these closed rounds. A traitor's program has run to
-- its end with the accesses of the transcript: it has exited or used up the patience.
abbrev pub IsLetterOf : Kind → Scenario → List (List Letter) → ℕ → Option (List Insn) → Letter → Type 0
IsLetterOf K s before g None l = l ≡ loyal_letter K s before g
IsLetterOf K s before g (Some program) l =
    (end : Activation) × Runs l.steps
    (started None program (K.context s before g) (K.relay s before g)) l.transcript end
    × (l ≡ traitor_letter_with K s before g (Some program) l.transcript l.steps end) × IsWithin s.patience l.steps
    × ((l.exited || is_reached s.patience l.steps) ≡ true)

-- States that these are all letters of the round after `before`, ascending by general, and that `piece` has exactly the
-- accesses in them.
pub record IsAccountedRound (K : Kind) (s : Scenario) (before : List (List Letter)) (piece : List Access)
    (letters : List Letter) : Type 0 where
  pub count : length letters ≡ s.generals
  pub each : (g : ℕ) (l : Letter) → slice_get letters g ≡ Some l →
      IsLetterOf K s before g (program_of s g) l × (accesses_of g piece ≡ l.transcript)
  pub entries : All (λ a. (a.general < s.generals) × (a.round ≡ suc (length before))) piece

-- States that the ledger accounts for these rounds, which come after the rounds `before`. Each round accounts for as
-- many entries of the ledger as its transcripts have together, the first round for the first entries.
abbrev pub AreAccounted : Kind → Scenario → List (List Letter) → List Access → List (List Letter) → Type 0
AreAccounted K s before ledger [] = (length before ≡ suc s.bound) × (ledger ≡ [])
AreAccounted K s before ledger (letters ∷ rounds) =
    let count = sum_by (λ l. length l.transcript) letters in
    IsAccountedRound K s before (take count ledger) letters
    × AreAccounted K s (before ++ letters ∷ []) (drop count ledger) rounds

-- Returns the first letter of a general in a round, if there is one.
abbrev pub letter_by : ℕ → ℕ → List Letter → Option Letter
letter_by g round letters = find (λ l. (l.general == g) && (l.round == round)) letters

-- Returns the letters of a round, the first of each general, ascending by general.
abbrev pub letters_by : ℕ → ℕ → List Letter → List Letter
letters_by n round letters = each n (λ g. option_to_list (letter_by g round letters))

-- Returns the letters by round, and within a round by general.
abbrev pub rounds_of : Scenario → List Letter → List (List Letter)
rounds_of s letters = each (suc s.bound) (λ r. letters_by s.generals (suc r) letters ∷ [])

-- States that there is one letter for each general and round, in any order, and that the ledger has exactly the
-- accesses in them.
abbrev pub IsAccounted : Kind → Scenario → List Access → List Letter → Type 0
IsAccounted K s ledger letters =
    (length letters ≡ suc s.bound * s.generals) × AreAccounted K s [] ledger (rounds_of s letters)
