-- The texts that an audit of a signed campaign accepts are the chronicles of complete runs.
use Rattle.std.proofs.Common.{◌≡◌, ℕ, suc, List, sym, ap, ◌∙◌, arith}
use Rattle.round.specs.Scenario.{Scenario, IsScenario}
use Rattle.world.specs.declared.event.Event.{Event}
use Rattle.world.specs.Kind.{World}
use Rattle.world.specs.KindLists.{IsComplete, names_in, replayed}
use Rattle.world.proofs.Lasting.{replayed_complete}
use Rattle.world.proofs.Replaying.{runs_are_replays}
use Rattle.signed.specs.Chronicle.{signed_chronicle_of}
use Rattle.signed.specs.Kind.{signed_kind, played}
use Rattle.signed.proofs.Worlds.{signed_campaigns}
use Rattle.trace.specs.Names.{names_of}
use Rattle.trace.specs.SignedAudit.{IsSoundSignedText, signed_chronicle_told}
use Rattle.trace.specs.SignedLaws.{IsSignedRunText, SoundSignedTextsAreRuns}
use Rattle.trace.specs.SignedText.{signed_text}
use Rattle.trace.proofs.Naming.{AreKnown, known_all}
use Rattle.trace.proofs.SignedNaming.{signed_names_told}

-- The generals named in a complete run's text are those of its ledger.
names_replay : (s : Scenario) (events : List Event) → IsScenario s → IsComplete signed_kind s events
    → names_of (signed_text (signed_chronicle_of (played s events))) ≡ names_in 1 (played s events).ledger (suc s.bound)
names_replay s events is complete =
    let w = played s events in
    let few = is.few in
    let own = (runs_are_replays signed_kind signed_campaigns).generals s events is complete in
    let known : AreKnown w.ledger = known_all w.ledger (λ k d lt. let e = own k d lt in omega arith) in
    signed_names_told (signed_chronicle_of w) known ∙ ap (names_in 1 w.ledger) complete.closed

run_sound : (s : Scenario) (t : List ℕ) → IsScenario s → IsSignedRunText s t → IsSoundSignedText s t
unfolding signed_chronicle_told
run_sound s t is h =
    let w = played s h.events in
    let names : names_of t ≡ names_in 1 w.ledger (suc s.bound) = ap names_of h.same ∙ names_replay s h.events is h.complete in
    let tell : World → List ℕ = λ v. signed_text (signed_chronicle_of v) in
    h.same ∙ (ap tell (sym ((runs_are_replays signed_kind signed_campaigns).worlds s h.events is h.complete))
    ∙ ap (λ (n : List (List ℕ)). tell (played s (replayed signed_kind s n))) (sym names))

pub proved_sound_signed_texts_are_runs : SoundSignedTextsAreRuns
unfolding signed_chronicle_told
proved_sound_signed_texts_are_runs s t is = (
  (λ h. record { events = replayed signed_kind s (names_of t); complete = replayed_complete signed_kind s (signed_campaigns s is) (names_of t); same = h }),
  run_sound s t is,
)
