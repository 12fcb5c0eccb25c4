-- The schedule that repeats a chronicle's accesses.
use Rattle.std.proofs.Common.{◌≡◌, ◌<◌, ◌≤◌, ℕ, zero, suc, List, length, refl, sym, ap, ◌∙◌, subst, arith}
use Rattle.std.specs.Prelude.{All}
use Rattle.board.specs.Board.{Access}
use Rattle.round.specs.Scenario.{Scenario, IsScenario}
use Rattle.signed.specs.Chronicle.{signed_chronicle_of}
use Rattle.signed.specs.Kind.{signed_kind}
use Rattle.signed.proofs.Worlds.{signed_campaigns}
use Rattle.world.specs.declared.schedule.Repeat.{Repeat}
use Rattle.world.specs.Campaigns.{AreCampaigns}
use Rattle.world.specs.Chronicle.{Chronicle, chronicle_of}
use Rattle.world.specs.Kind.{Kind, World, opening, run}
use Rattle.world.specs.KindLists.{names_in, replayed}
use Rattle.world.specs.World.{oral_kind}
use Rattle.world.proofs.Campaigns.{oral_campaigns}
use Rattle.world.proofs.Lasting.{replayed_complete}
use Rattle.world.proofs.Replaying.{runs_are_replays}
use Rattle.campaign_orders.specs.declared.schedule_outcome.Scheduled.TheVariants.{By}
use Rattle.campaign_orders.specs.Planning.{IsScheduleOf}
use Rattle.campaign_orders.specs.Schedules.{schedule_from}
use Rattle.campaign_orders.specs.Text.{schedule_text}
use Rattle.trace.specs.Names.{chronicle_told, names_of}
use Rattle.trace.specs.SignedAudit.{signed_chronicle_told}
use Rattle.campaign_schedules.specs.Reading.{IsReadAs}
use Rattle.campaign_schedules.specs.Retraced.{ComesAgain, IsLedgerOfRun, IsRepetition, IsRetraced, IsSignedRetraced}
use Rattle.campaign_schedules.proofs.Reading.{proved_schedules_are_read}
use Rattle.campaign_schedules.proofs.Within.{AreShort, schedule_read}

module _ (K : Kind) (good : AreCampaigns K) where
  -- Returns the world at the end of the replay of an order.
  abbrev end : Scenario → List (List ℕ) → World
  end s names = run K (opening K s) (replayed K s names)

  -- Proves that a replay is a complete run.
  ledger_of : (s : Scenario) (names : List (List ℕ)) (accesses : List Access) → IsScenario s → accesses ≡ (end s names).ledger → IsLedgerOfRun K s accesses
  ledger_of s names accesses is e = (replayed K s names, replayed_complete K s (good s is) names, sym e)

  pub few : (s : Scenario) (accesses : List Access) → IsScenario s → IsLedgerOfRun K s accesses → All (λ a. a.general < 256) accesses
  few s accesses is h =
      let own = (runs_are_replays K good).generals s h.0 is h.1 in
      let most = is.few in
      subst (λ (accesses : List Access). All (λ a. a.general < 256) accesses) h.2 (λ k d lt. let e = own k d lt in omega arith)

  repeats : (told : World → Chronicle) (s : Scenario) (names : List (List ℕ)) (c : Chronicle) (accesses : List Access) (schedule : List (List Repeat)) {lines : List ℕ} → IsScenario s
      → c ≡ told (end s names) → c.accesses ≡ (end s names).ledger → accesses ≡ c.accesses → ComesAgain K s accesses schedule
      → schedule ≡ schedule_from K (opening K s) (names_in 1 accesses (suc s.bound)) → IsReadAs (schedule_text schedule) schedule → lines ≡ schedule_text schedule → IsRepetition K told s c lines
  repeats told s names c accesses schedule is told_is ledger e comes entries read written = record {
    schedule = schedule;
    entries = entries ∙ ap (λ (accesses : List Access). schedule_from K (opening K s) (names_in 1 accesses (suc s.bound))) e;
    written = written;
    read = subst (λ (l : List ℕ). IsReadAs l schedule) (sym written) read;
    again = ap told (comes (replayed K s names) (replayed_complete K s (good s is) names) (sym (e ∙ ledger))) ∙ sym told_is;
  }

  -- Proves that parsing the text of a schedule for given generals gives it again.
  pub read_of : (s : Scenario) (names : List (List ℕ)) (schedule : List (List Repeat)) → IsScenario s → AreShort s → length names ≤ 5 → IsScheduleOf K (opening K s) names (By schedule) → IsReadAs (schedule_text schedule) schedule
  read_of s names schedule is short five made = schedule_read K s short (good s is) proved_schedules_are_read is.few names schedule five made.0 made.1

-- Proves that an audit replays a complete run.
pub ledger_at : (s : Scenario) (t : List ℕ) (accesses : List Access) → IsScenario s → accesses ≡ (chronicle_told s t).accesses → IsLedgerOfRun oral_kind s accesses
unfolding chronicle_told
ledger_at s t accesses is e = ledger_of oral_kind oral_campaigns s (names_of t) accesses is e

pub signed_ledger_at : (s : Scenario) (t : List ℕ) (accesses : List Access) → IsScenario s → accesses ≡ (signed_chronicle_told s t).accesses → IsLedgerOfRun signed_kind s accesses
unfolding signed_chronicle_told
signed_ledger_at s t accesses is e = ledger_of signed_kind signed_campaigns s (names_of t) accesses is e

pub retraced_by : (s : Scenario) (t : List ℕ) (accesses : List Access) (schedule : List (List Repeat)) → {lines : List ℕ} → IsScenario s → accesses ≡ (chronicle_told s t).accesses → ComesAgain oral_kind s accesses schedule
    → schedule ≡ schedule_from oral_kind (opening oral_kind s) (names_in 1 accesses (suc s.bound)) → IsReadAs (schedule_text schedule) schedule → lines ≡ schedule_text schedule → IsRetraced s t lines
unfolding chronicle_told
retraced_by s t accesses schedule is e comes entries read written =
    repeats oral_kind oral_campaigns chronicle_of s (names_of t) (chronicle_of (end oral_kind oral_campaigns s (names_of t))) accesses schedule is refl refl e comes entries read written

pub signed_retraced_by : (s : Scenario) (t : List ℕ) (accesses : List Access) (schedule : List (List Repeat)) → {lines : List ℕ} → IsScenario s → accesses ≡ (signed_chronicle_told s t).accesses → ComesAgain signed_kind s accesses schedule
    → schedule ≡ schedule_from signed_kind (opening signed_kind s) (names_in 1 accesses (suc s.bound)) → IsReadAs (schedule_text schedule) schedule → lines ≡ schedule_text schedule → IsSignedRetraced s t lines
unfolding signed_chronicle_told
signed_retraced_by s t accesses schedule is e comes entries read written =
    repeats signed_kind signed_campaigns signed_chronicle_of s (names_of t) (signed_chronicle_of (end signed_kind signed_campaigns s (names_of t))) accesses schedule is refl refl e comes entries read written

-- Proves that there is a list of generals for each round.
pub names_count : (round : ℕ) (ledger : List Access) (k : ℕ) → length (names_in round ledger k) ≡ k
names_count round ledger zero = refl
names_count round ledger (suc k) = ap suc (names_count (suc round) ledger k)
