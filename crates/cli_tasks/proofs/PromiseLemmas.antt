-- The promises of the theorems hold for every campaign that is played by a schedule or replayed.
use Rattle.std.proofs.Common.{ℕ, ◌<◌, ◌≡◌, false, List, refl, subst, sym}
use Rattle.label.specs.Oral.{IsFaithful, Messages}
use Rattle.round.specs.Letters.{messages}
use Rattle.round.specs.Scenario.{Scenario, IsScenario, is_traitor}
use Rattle.signed.specs.Kind.{signed_kind}
use Rattle.signed.proofs.Promised.{promised_agree, promised_verdict, promised_well}
use Rattle.signed.proofs.Worlds.{signed_campaigns}
use Rattle.trace.specs.Names.{chronicle_told, names_of}
use Rattle.trace.specs.SignedAudit.{signed_chronicle_told}
use Rattle.world.specs.declared.event.Event.{Event}
use Rattle.world.specs.declared.schedule.Repeat.{Repeat}
use Rattle.world.specs.Agreement.{IsFinished}
use Rattle.world.specs.Chronicle.{Chronicle, chronicle_of}
use Rattle.world.specs.KindLists as generic
use Rattle.world.specs.Lists.{listed, replayed}
use Rattle.world.specs.Schedules.{lines_by}
use Rattle.world.specs.World.{oral_kind, opening, run}
use Rattle.world.proofs.Agreeing.{proved_worlds_agree}
use Rattle.world.proofs.Campaigns.{oral_campaigns}
use Rattle.world.proofs.Lasting.{lists_are_complete}
use Rattle.world.proofs.Listed.{listed_finished, replayed_finished}
use Rattle.world.proofs.Outcomes.{finished_agree, finished_verdict, finished_well}
use Rattle.world.proofs.Punctual.{run_scenario}
use Rattle.signed.specs.Chronicle.{signed_chronicle_of}
use Rattle.signed.specs.Kind as signed
use Rattle.cli_tasks.specs.Schedules.{played, signed_played}
use Rattle.cli_tasks.specs.Promises.{AreFaithful, KeepsPromises, KeepsSignedPromises}

-- They hold for the chronicle of a finished world.
finished_kept : (s : Scenario) (events : List Event) → IsScenario s → IsFinished (run (opening s) events) → KeepsPromises s (chronicle_of (run (opening s) events))
finished_kept s events is done =
    let c = chronicle_of (run (opening s) events) in
    record { agree = finished_agree s events c is done refl; verdict = finished_verdict s events c is done refl; well = finished_well s events c is done refl }

pub played_kept : (s : Scenario) (schedule : List (List Repeat)) → IsScenario s → KeepsPromises s (played s schedule)
played_kept s schedule is = finished_kept s (listed s (lines_by schedule)) is (listed_finished oral_kind oral_campaigns s (lines_by schedule) is)

pub told_kept : (s : Scenario) (bytes : List ℕ) → IsScenario s → KeepsPromises s (chronicle_told s bytes)
unfolding chronicle_told
told_kept s bytes is =
    finished_kept s (replayed s (names_of bytes)) is (replayed_finished oral_kind oral_campaigns s (names_of bytes) (run (opening s) (replayed s (names_of bytes))) is refl)

-- In the chronicle of a finished world the loyal generals are faithful.
finished_faithful : (s : Scenario) (events : List Event) → IsScenario s → IsFinished (run (opening s) events) → AreFaithful (chronicle_of (run (opening s) events))
finished_faithful s events is done =
    let M : Messages = messages (run (opening s) events).closed in
    let P : Scenario → Type 0 = λ t. (g : ℕ) → g < t.generals → is_traitor t g ≡ false → IsFaithful t.generals t.commander t.bound t.order M g in
    subst P (sym (run_scenario oral_kind events (opening s))) (proved_worlds_agree.faithful s events is done)

pub played_faithful : (s : Scenario) (schedule : List (List Repeat)) (c : Chronicle) → IsScenario s → c ≡ played s schedule → AreFaithful c
played_faithful s schedule c is same = subst AreFaithful (sym same) (finished_faithful s (listed s (lines_by schedule)) is (listed_finished oral_kind oral_campaigns s (lines_by schedule) is))

pub told_faithful : (s : Scenario) (bytes : List ℕ) (c : Chronicle) → IsScenario s → c ≡ chronicle_told s bytes → AreFaithful c
unfolding chronicle_told
told_faithful s bytes c is same =
    subst AreFaithful (sym same)
    (finished_faithful s (replayed s (names_of bytes)) is (replayed_finished oral_kind oral_campaigns s (names_of bytes) (run (opening s) (replayed s (names_of bytes))) is refl))

-- They hold for the chronicle of a complete list of events of a signed campaign.
complete_kept : (s : Scenario) (events : List Event) → IsScenario s → generic.IsComplete signed_kind s events → KeepsSignedPromises s (signed_chronicle_of (signed.played s events))
complete_kept s events is complete =
    let c = signed_chronicle_of (signed.played s events) in
    record {
      agree = promised_agree s events c is complete refl;
      verdict = promised_verdict s events c is complete refl;
      well = promised_well s events c is complete refl;
    }

pub signed_played_kept : (s : Scenario) (schedule : List (List Repeat)) → IsScenario s → KeepsSignedPromises s (signed_played s schedule)
signed_played_kept s schedule is =
    complete_kept s (generic.listed s (lines_by schedule)) is ((lists_are_complete signed_kind signed_campaigns).listed s (lines_by schedule) is)

pub signed_told_kept : (s : Scenario) (bytes : List ℕ) → IsScenario s → KeepsSignedPromises s (signed_chronicle_told s bytes)
unfolding signed_chronicle_told
signed_told_kept s bytes is =
    complete_kept s (generic.replayed signed_kind s (names_of bytes)) is ((lists_are_complete signed_kind signed_campaigns).replayed s (names_of bytes) is)
