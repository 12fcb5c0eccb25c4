-- Schedules that repeat a campaign, oral or signed (own).
use Rattle.std.specs.Prelude.{ℕ, suc, ◌≡◌, List}
use Rattle.board.specs.Board.{Access}
use Rattle.round.specs.Scenario.{Scenario}
use Rattle.signed.specs.Chronicle.{signed_chronicle_of}
use Rattle.signed.specs.Kind.{signed_kind}
use Rattle.world.specs.declared.event.Event.{Event}
use Rattle.world.specs.declared.schedule.Repeat.{Repeat}
use Rattle.world.specs.Chronicle.{Chronicle, chronicle_of}
use Rattle.world.specs.Kind.{Kind, World, opening, run}
use Rattle.world.specs.KindLists.{IsComplete, listed, names_in}
use Rattle.world.specs.Schedules.{lines_by}
use Rattle.world.specs.World.{oral_kind}
use Rattle.campaign_orders.specs.Schedules.{schedule_from}
use Rattle.campaign_orders.specs.Text.{schedule_text}
use Rattle.trace.specs.Names.{chronicle_told}
use Rattle.trace.specs.SignedAudit.{signed_chronicle_told}
use Rattle.campaign_schedules.specs.Reading.{IsReadAs}

-- States that some complete run of the scenario has exactly these accesses.
abbrev pub IsLedgerOfRun : Kind → Scenario → List Access → Type 0
IsLedgerOfRun K s accesses =
    (events : List Event) × IsComplete K s events × ((run K (opening K s) events).ledger ≡ accesses)

-- States that a campaign played by the schedule is the same run as every complete run with these accesses.
abbrev pub ComesAgain : Kind → Scenario → List Access → List (List Repeat) → Type 0
ComesAgain K s accesses schedule =
    (events : List Event) → IsComplete K s events → (run K (opening K s) events).ledger ≡ accesses →
    run K (opening K s) (listed s (lines_by schedule)) ≡ run K (opening K s) events

-- States that `lines` is the text of a schedule by which the scenario's campaign has this chronicle again. The schedule
-- has one entry for each access, in the order of the accesses. `told` returns the chronicle of a finished world.
pub record IsRepetition (K : Kind) (told : World → Chronicle) (s : Scenario) (c : Chronicle) (lines : List ℕ) : Type 0 where
  pub schedule : List (List Repeat)
  pub entries : schedule ≡ schedule_from K (opening K s) (names_in 1 c.accesses (suc s.bound))
  pub written : lines ≡ schedule_text schedule
  pub read : IsReadAs lines schedule
  pub again : told (run K (opening K s) (listed s (lines_by schedule))) ≡ c

-- States that `lines` is the text of a schedule by which the scenario's oral campaign has the chronicle `text` again.
abbrev pub IsRetraced : Scenario → List ℕ → List ℕ → Type 0
IsRetraced s text lines = IsRepetition oral_kind chronicle_of s (chronicle_told s text) lines

-- States that `lines` is the text of a schedule by which the scenario's signed campaign has the chronicle `text` again.
abbrev pub IsSignedRetraced : Scenario → List ℕ → List ℕ → Type 0
IsSignedRetraced s text lines = IsRepetition signed_kind signed_chronicle_of s (signed_chronicle_told s text) lines
