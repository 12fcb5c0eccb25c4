-- Single lines of a chronicle, made from the numbers that they contain (own).
use Rattle.std.specs.Prelude.{ℕ, zero, suc, Bool, true, false, List, [], ◌∷◌, ◌++◌, ◌==◌, map, filter, flat_map, decimal, codes, Option, None, Some}
use Rattle.board.specs.Board.{Access}
use Rattle.round.specs.Letters.{Letter}
use Rattle.round.specs.Scenario.{Scenario, is_traitor}
use Rattle.trace.specs.Text.{Word, Line, access_line, letter_lines, place, decision_line}

abbrev pub round_line : ℕ → Line
round_line round = codes "round" ∷ decimal round ∷ []

abbrev pub row_line : ℕ → List (Option ℕ) → Line
row_line rank row = codes "row" ∷ decimal rank ∷ map place row

-- Returns the word that marks a traitor's decision, or no word for a loyal lieutenant.
abbrev pub mark : Bool → List Word
mark true = codes "traitor" ∷ []
mark false = []

-- Returns the lines of a round: its first line, its accesses and its letters. `told` returns the lines of a letter.
abbrev pub round_told : (Letter → List Line) → ℕ → List Access → List Letter → List Line
round_told told r xs letters = (round_line r ∷ map access_line (filter (λ a. a.round == r) xs)) ++ flat_map told letters

abbrev pub one_round : ℕ → List Access → List Letter → List Line
one_round r xs letters = round_told letter_lines r xs letters

-- Returns the line of a lieutenant's decision, or no line if the decision is `None`.
abbrev pub decided_lines : Scenario → ℕ → Option ℕ → List Line
decided_lines s g None = []
decided_lines s g (Some d) = decision_line g (is_traitor s g) d ∷ []

-- Returns a piece repeated the given number of times.
abbrev pub repeated : ℕ → List ℕ → List ℕ
repeated zero piece = []
repeated (suc times) piece = piece ++ repeated times piece
