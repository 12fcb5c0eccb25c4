-- The text of an error about labels: its code.
use Rattle.std.specs.Prelude.{ℕ, List, codes}
use Rattle.label.specs.declared.space.LabelError.{LabelError}
use Rattle.label.specs.declared.space.LabelError.TheVariants.{NotALabel, Rank}

-- Returns the code that is displayed for an error.
abbrev pub told : LabelError → List ℕ
told NotALabel = codes "L1"
told Rank = codes "L2"
