-- The fault that an audit reports for a text that is not sound (own).
use Rattle.std.specs.Prelude.{ℕ, suc, ◌≡◌, ◌≢◌, ◌≤◌, ◌==◌, nat_le, if◌then◌else◌, List, [], ◌∷◌, length, take, slice_get, count_by, bytes_eq, codes, Option, Some, None}
use Rattle.combine.specs.declared.campaign_rule.Rule.{Rule}
use Rattle.combine.specs.Names.{is_default}
use Rattle.text.specs.Stop.{feed}
use Rattle.text.specs.Parts.{pieces}
use Rattle.round.specs.Scenario.{Scenario}
use Rattle.trace.specs.declared.version.Version.{Version}
use Rattle.trace.specs.declared.version.Version.TheVariants.{First, Second}
use Rattle.trace.specs.declared.fault.TraceFault.{TraceFault}
use Rattle.trace.specs.declared.fault.TraceFault.TheVariants.{Line, Scenario as NotTheScenarios, Differs}
use Rattle.trace.specs.declared.fault.TraceError.{TraceError}
use Rattle.trace.specs.declared.fault.TraceError.TheVariants.{At}
use Rattle.trace.specs.Text.{text_in}
use Rattle.trace.specs.Names.{chronicle_told}
use Rattle.trace.specs.Shapes.{unshaped_from}

-- Returns the first version if a campaign with this rule may be written in it, otherwise `None`.
abbrev pub first_version : Rule → Option Version
first_version rule = if is_default rule then Some First else None

-- Returns the version that the first line of a chronicle names, or `None` if it names none in which a campaign with
-- this rule may be written.
abbrev pub line_version : Rule → List ℕ → Option Version
line_version rule line = if bytes_eq line (codes "chronicle 2") then Some Second
    else if bytes_eq line (codes "chronicle 1") then first_version rule else None

abbrev pub lines_version : Rule → List (List ℕ) → Option Version
lines_version rule [] = None
lines_version rule (line ∷ lines) = line_version rule line

unfoldable pub version_named : Rule → List ℕ → Option Version
version_named rule t = lines_version rule (pieces feed t)

-- States that the two texts first differ at byte offset `place`. One of them may end there.
pub record IsFirstDifference (t other : List ℕ) (place : ℕ) : Type 0 where
  pub within : place ≤ length t
  pub same : take place t ≡ take place other
  pub differs : slice_get t place ≢ slice_get other place

-- Returns the number of the line, counted from 1, that contains the byte at offset `place`.
abbrev pub line_at : List ℕ → ℕ → ℕ
line_at t place = suc (count_by (λ c. c == 10) (take place t))

-- Returns the fault to report for a line, counted from 1, that is not as expected: in lines 1 and 2, that the text is
-- not the scenario's.
abbrev pub differing : ℕ → TraceFault
differing line = if nat_le line 2 then NotTheScenarios else Differs

-- Returns the error to report: the first line that is not a valid line of a chronicle if there is one, otherwise the
-- line that differs.
abbrev pub first_fault : Option ℕ → ℕ → TraceError
first_fault (Some line) differs = At Line line
first_fault None differs = At (differing differs) differs

-- Returns the error to report for a text that differs from the expected one at byte offset `place`.
unfoldable pub fault_at : List ℕ → ℕ → TraceError
fault_at t place = first_fault (unshaped_from 1 (pieces feed t)) (line_at t place)

-- States that the text first differs from the chronicle of its replay at byte offset `place`. If the text names no
-- version in which the campaign may be written, `place` is 0.
abbrev pub DiffersAt : Scenario → List ℕ → Option Version → ℕ → Type 0
DiffersAt s t None place = place ≡ 0
DiffersAt s t (Some version) place = IsFirstDifference t (text_in version (chronicle_told s t)) place

-- States that `e` is the error to report for a text that is not sound: it results from the first difference.
pub record IsFaultOf (s : Scenario) (t : List ℕ) (e : TraceError) : Type 0 where
  pub place : ℕ
  pub differs : DiffersAt s t (version_named s.rule t) place
  pub fault : e ≡ fault_at t place
