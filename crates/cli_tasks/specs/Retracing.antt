-- Defines what `schedule` prints: a schedule by which a campaign has a given chronicle, or given accesses.
use Rattle.std.specs.Prelude.{ℕ, List}
use Rattle.campaign_schedules.specs.Arranged.{IsArranged}
use Rattle.campaign_schedules.specs.Retraced.{IsRetraced, IsSignedRetraced}
use Rattle.scenario.specs.Reading.{TellsAny}
use Rattle.scenario.specs.declared.messages.Campaign.{Campaign}
use Rattle.scenario.specs.declared.messages.Campaign.TheVariants.{Oral, Signed}
use Rattle.signed.specs.Kind.{signed_kind}
use Rattle.trace.specs.Laws.{IsSoundText}
use Rattle.trace.specs.SignedAudit.{IsSoundSignedText}
use Rattle.world.specs.Kind.{Kind}
use Rattle.world.specs.World.{oral_kind}
use Rattle.cli_tasks.specs.Explained.{scenario_of}

-- Returns the kind of a campaign, which says whether its messages are oral or signed.
abbrev pub kind_of : Campaign → Kind
kind_of (Oral s) = oral_kind
kind_of (Signed s) = signed_kind

-- States that `bytes` are the text of a chronicle of the campaign, and that `lines` are a schedule by which the
-- campaign has this chronicle.
abbrev pub IsScheduleFor : Campaign → List ℕ → List ℕ → Type 0
IsScheduleFor (Oral s) bytes lines = IsSoundText s bytes × IsRetraced s bytes lines
IsScheduleFor (Signed s) bytes lines = IsSoundSignedText s bytes × IsSignedRetraced s bytes lines

-- States that the first file describes a campaign, and that `lines` are a schedule by which its accesses to the board
-- happen in the sequence in `list`.
abbrev pub Arranges : List ℕ → List ℕ → List ℕ → Type 0
Arranges list first lines = (c : Campaign) × TellsAny first c × IsArranged (kind_of c) (scenario_of c) list lines
