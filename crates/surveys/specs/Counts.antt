-- The counts of a survey's outcomes, as lines (docs/FORMATS.md, "Surveys").
use Rattle.std.specs.Prelude.{ℕ, List, ◌++◌, decimal, codes, Option, None, Some}
use Rattle.surveys.specs.declared.sums.Sums.{Sums}
use Rattle.surveys.specs.declared.sums.Tally.{Tally}

-- Writes the seed after the words `first seed`, if there is one, and ends the line.
abbrev pub first_text : Option ℕ → List ℕ
first_text None = codes "\n"
first_text (Some seed) = codes " first seed " ++ (decimal seed ++ codes "\n")

-- Writes the line of an outcome, such as `agreement broken 3 first seed 17`.
abbrev pub tally_text : List ℕ → Tally → List ℕ
tally_text name t = name ++ (codes " " ++ (decimal t.count ++ first_text t.first))

-- Writes the line with the number of campaigns, such as `campaigns 100`.
abbrev pub campaigns_text : ℕ → List ℕ
campaigns_text campaigns = codes "campaigns " ++ (decimal campaigns ++ codes "\n")

-- Writes the counts of a survey's outcomes: a line with the number of campaigns, and a line for each outcome.
unfoldable pub sums_text : Sums → List ℕ
sums_text s = campaigns_text s.campaigns ++ tally_text (codes "bound kept") s.kept
    ++ tally_text (codes "agreement broken") s.broken ++ tally_text (codes "order disobeyed") s.disobeyed
