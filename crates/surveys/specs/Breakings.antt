-- The broken campaign that a search found, as a row of a table or as a scenario (docs/FORMATS.md, "Surveys").
use Rattle.std.specs.Prelude.{ℕ, Bool, true, false, List, [], ◌∷◌, ◌++◌, length, decimal, codes, Option, None, Some}
use Rattle.surveys.specs.Wording.{plot_text}
use Rattle.surveys.specs.declared.breach.Breach.{Breach}
use Rattle.surveys.specs.declared.breach.Breaking.{Breaking}
use Rattle.surveys.specs.Breaches.{statements}
use Rattle.surveys.specs.Tables.{number_text, padded}

-- Returns how many traitors the campaign that a search found has after its reduction, or `None` if it found none.
abbrev pub traitors_left : Option Breaking → Option ℕ
traitors_left None = None
traitors_left (Some b) = Some (length b.breach.plot.traitors)

-- Returns how many statements the campaign that a search found has after its reduction, or `None` if it found none.
abbrev pub statements_left : Option Breaking → Option ℕ
statements_left None = None
statements_left (Some b) = Some (statements b.breach.plot)

-- Returns the seed of the campaign that a search found, or `None` if it found none.
abbrev pub seed_left : Option Breaking → Option ℕ
seed_left None = None
seed_left (Some b) = Some b.breach.seed

-- Writes a table row with these five texts, right-aligned in columns of 8, 5, 8, 10 and 4 bytes.
abbrev pub breaking_row : List ℕ → List ℕ → List ℕ → List ℕ → List ℕ → List ℕ
breaking_row generals bound traitors statements seed =
    padded 8 generals ++ (codes " " ++ (padded 5 bound ++ (codes " " ++ (padded 8 traitors
    ++ (codes " " ++ (padded 10 statements ++ (codes " " ++ (padded 4 seed ++ codes "\n"))))))))

-- Writes a comment line with these five texts.
abbrev pub breaking_head : List ℕ → List ℕ → List ℕ → List ℕ → List ℕ → List ℕ
breaking_head generals bound traitors statements seed =
    codes "# generals " ++ (generals ++ (codes " bound " ++ (bound ++ (codes " least found: traitors " ++ (traitors
    ++ (codes " statements " ++ (statements ++ (codes " seed " ++ (seed ++ codes "\n")))))))))

-- Writes the five texts as a table row if the first argument is true, and otherwise as a comment line.
abbrev pub numbers_text : Bool → List ℕ → List ℕ → List ℕ → List ℕ → List ℕ → List ℕ
numbers_text true generals bound traitors statements seed = breaking_row generals bound traitors statements seed
numbers_text false generals bound traitors statements seed = breaking_head generals bound traitors statements seed

-- Writes the campaign that a search found as a scenario. Writes nothing if the first argument, that a table is written,
-- is true, or if the search found none.
abbrev pub left_text : Bool → Option Breaking → List ℕ
left_text true found = []
left_text false None = []
left_text false (Some b) = plot_text b.breach.plot

-- Writes the result of a search with `n` generals and the bound `m`. In a table it is a row with the numbers of the
-- reduced campaign. Otherwise it is a comment line with these numbers, and then the campaign as a scenario, if one was
-- found.
abbrev pub breaking_text : Bool → ℕ → ℕ → Option Breaking → List ℕ
breaking_text is_table n m found =
    numbers_text is_table (decimal n) (decimal m) (number_text (traitors_left found))
    (number_text (statements_left found)) (number_text (seed_left found)) ++ left_text is_table found
