-- Defines the lines that an audit prints.
use Rattle.std.specs.Prelude.{ℕ, List, [], ◌∷◌, ◌++◌, codes}
use Rattle.world.specs.declared.verdict.Verdict.{Verdict}
use Rattle.trace.specs.Text.{text, verdict_line}

-- Returns the two lines that an audit prints about a sound chronicle: `sound`, and the verdict.
abbrev pub sound_lines : Verdict → List ℕ
sound_lines verdict = codes "sound\n" ++ text (verdict_line verdict ∷ [])
