-- Laws of surveys: campaigns whose bound holds are sound (TOPLAS 1982, theorem 1, and theorem 2 for signed messages),
-- and a survey that is written is read as it was (own).
use Rattle.std.specs.Prelude.{ℕ, ◌≡◌, ◌&&◌, not, List, ◌++◌, count_by, flat_map}
use Rattle.std.specs.List.{AllZip}
use Rattle.surveys.specs.declared.finding.Finding.{Finding}
use Rattle.surveys.specs.Family.{Family}
use Rattle.surveys.specs.Heads.{IsTold, adversary_word, head_text}
use Rattle.surveys.specs.Judging.{IsFindingOf}
use Rattle.surveys.specs.Lines.{line_text}
use Rattle.surveys.specs.Parts.{IsHeadLine, IsPart, IsUnfed}
use Rattle.surveys.specs.Sums.{is_sound}

-- States that in every campaign of a seed whose bound holds, the loyal lieutenants decide alike and obey a loyal
-- commander.
abbrev pub KeptAreSound : Type 0
KeptAreSound = (f : Family) (seeds : List ℕ) (found : List Finding) → AllZip (IsFindingOf f) seeds found
    → count_by (λ (x : Finding). x.verdict.bound && not (is_sound x.verdict)) found ≡ 0

-- States that a family's head is one line, if its bytecode has no line feed. It also states that a head and the lines
-- of campaigns after it are a valid part of a survey, and describe exactly these campaigns.
pub record WrittenAreParts : Type 0 where
  pub heads : (f : Family) → IsTold f → IsUnfed (adversary_word f.adversary) → IsHeadLine (head_text f)
  pub parts : (f : Family) (found : List Finding) → IsHeadLine (head_text f)
      → IsPart (head_text f) (head_text f ++ flat_map line_text found) found
