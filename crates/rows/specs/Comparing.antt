-- Defines the first line in which two texts differ, counted from 1 (own).
use Rattle.std.specs.Prelude.{ℕ, suc, ◌==◌, List, [], ◌∷◌, if◌then◌else◌, Option, Some, None}
use Rattle.rows.specs.declared.comparison.ComparisonResult.{ComparisonResult}
use Rattle.rows.specs.declared.comparison.ComparisonResult.TheVariants.{AsStored, Differs}

-- Returns the number of the first line in which two texts differ, or `None` if they are equal. `line` is the number of
-- the line in which both begin.
abbrev pub parting : ℕ → List ℕ → List ℕ → Option ℕ
parting line [] [] = None
parting line [] (d ∷ ds) = Some line
parting line (c ∷ cs) [] = Some line
parting line (c ∷ cs) (d ∷ ds) = if c == d then parting (if c == 10 then suc line else line) cs ds else Some line

-- Returns the result of a comparison. The argument is the number of the first line in which the texts differ, if they
-- do.
abbrev pub outcome_by : Option ℕ → ComparisonResult
outcome_by None = AsStored
outcome_by (Some line) = Differs line
