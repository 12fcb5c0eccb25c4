-- Which entries a traitor's activation in a signed world can make and has made, and what it sends when the round is
-- closed.
use Rattle.std.proofs.Common.{◌≡◌, ◌≢◌, ℕ, suc, ◌<◌, ◌≤◌, true, List, [], ◌∷◌, ◌++◌, length, map, drop, refl, sym, ap, subst, ◌∙◌, Option, Some, None, arith}
use Rattle.std.specs.Prelude.{slice_get, is_some, find, ◌==◌}
use Rattle.std.proofs.lemmas.Bool.{eq-eqb, ne_eqb, lt-ltb}
use Rattle.std.specs.List.{AllByRecursion}
use Rattle.label.specs.Labels.{is_distinct, generals}
use Rattle.semantics.specs.declared.entry.Entry.{Entry}
use Rattle.semantics.specs.Relay.{Relay}
use Rattle.semantics.specs.Entries.{is_sendable}
use Rattle.semantics.proofs.SafetyLaws.{safe_of_sound}
use Rattle.round.specs.Scenario.{Scenario, IsScenario, program_of}
use Rattle.round.specs.Letters.{Letter, letter_of}
use Rattle.round.specs.Activation.{Activation, started}
use Rattle.world.specs.declared.event.Event.{Event}
use Rattle.world.specs.declared.event.Event.TheVariants.{Close}
use Rattle.world.specs.declared.part.Progress.{Progress}
use Rattle.world.specs.declared.part.Progress.TheVariants.{Acting, Silent, Posted}
use Rattle.world.specs.Kind.{World, accesses_of, opening, round_open, letters_at, round_letters, traitor_letter_with}
use Rattle.world.proofs.Lasting.{close_open}
use Rattle.world.proofs.Listing.{each-find}
use Rattle.world.proofs.Moves.{run-append}
use Rattle.world.proofs.Punctual.{run_scenario}
use Rattle.world.proofs.Standing.{standing, ran, placed_at}
use Rattle.signed.specs.Chains.{Chain, Among}
use Rattle.signed.specs.Entries.{Dispatch, chain_of, dispatched}
use Rattle.signed.specs.Sent.{Sent, sent_by, delivered, held_behind, sends, round_sent, sent_in}
use Rattle.signed.specs.Kind.{signed_kind, signed_context, signed_relay, played, sent_after, held_in}
use Rattle.signed.specs.Laws.{SignedEntriesAreSent}
use Rattle.signed.proofs.Along.{held_is, sent_more, sent_length}
use Rattle.signed.proofs.Dispatching.{received_out, held_out}
use Rattle.signed.proofs.Forging.{sent_unforged}
use Rattle.signed.proofs.Making.{IsMade, sent_last}
use Rattle.signed.proofs.Places.{row_at, get_or_at}
use Rattle.signed.proofs.Sending.{IsKept, runs_kept, start_kept}
use Rattle.signed.proofs.Signing.{sendable_is, all_send}
use Rattle.signed.proofs.Worlds.{signed_campaigns, played_made}

-- The chains that a general holds have different signers.
pub held_distinct : (s : Scenario) (sent : Sent) → IsMade s sent → s.commander < s.generals → (g : ℕ) (ch : Chain) → Among ch (held_behind s.generals sent g) → is_distinct ch.signers ≡ true
held_distinct s sent made inside g ch there =
    let A : List Chain → Type 0 = λ xs. Among ch xs in
    let from = held_out s.generals (delivered sent) (suc (length sent)) g ch (subst A (held_is s.generals sent g) there) in
    (sent_unforged s sent made from.round from.sender ch inside (received_out g (sent_by sent from.round from.sender) ch from.came)).chain.distinct

-- His activation is reached by a run of a sound program.
kept_in : (s : Scenario) (events : List Event) (g : ℕ) (a : Activation) → IsScenario s → slice_get (played s events).parts g ≡ Some (Acting a) → IsKept a
kept_in s events g a is at =
    let w = played s events in
    let good = signed_campaigns s is in
    let r = ran signed_kind s w g a (standing signed_kind s events good).midway at in
    let context = signed_context s w.closed g in
    let relay = signed_relay s w.closed g in
    runs_kept (length r.program) a.state.steps (started s.patience r.program context relay) (accesses_of g (drop w.opened w.ledger)) a r.fitting
    (λ on. safe_of_sound r.program context relay (is.sound g r.program r.is) (good.context w.closed g r.general r.rounds) (good.relay w.closed g r.general r.rounds))
    (start_kept s.patience r.program context relay) r.runs

record HasEntered (s : Scenario) (w : World) (g : ℕ) (a : Activation) : Type 0 where
  pub agree : (e : Entry) → is_sendable a.relay e ≡ is_some (chain_of s.commander g (held_in s w.closed g) e)
  pub few : length a.state.entries ≤ 8
  pub each : AllByRecursion (λ e. is_some (chain_of s.commander g (held_in s w.closed g) e) ≡ true) a.state.entries

has_entered : (s : Scenario) (events : List Event) (g : ℕ) (a : Activation) → IsScenario s → slice_get (played s events).parts g ≡ Some (Acting a) → HasEntered s (played s events) g a
has_entered s events g a is at =
    let w = played s events in
    let k = kept_in s events g a is at in
    let p = placed_at signed_kind s w g a (ran signed_kind s w g a (standing signed_kind s events (signed_campaigns s is)).midway at) in
    let held = held_in s w.closed g in
    let distinct : (ch : Chain) → Among ch held → is_distinct ch.signers ≡ true = held_distinct s (sent_in s w.closed) (played_made s events is) is.commander g in
    let agree : (e : Entry) → is_sendable a.relay e ≡ is_some (chain_of s.commander g held e) =
    (λ e. ap (λ (r : Relay). is_sendable r e) p.relay ∙ sendable_is s g (suc (length w.closed)) held e distinct) in
    record {
      agree = agree;
      few = k.sendable.few;
      each = all_send (is_sendable a.relay) s.commander g held a.state.entries agree k.sendable.each;
    }

-- Letters of other generals are not his, and the letter of his activation is.
not_his : (w : World) (g j : ℕ) (o : Option Progress) → j ≢ g → find (λ l. l.general == g) (letters_at signed_kind w j o) ≡ None
not_his w g j None ne = refl
not_his w g j (Some (Acting a)) ne = rw (ne_eqb j g ne) refl
not_his w g j (Some Silent) ne = refl
not_his w g j (Some Posted) ne = rw (ne_eqb j g ne) refl

abbrev letter_at : World → ℕ → Activation → Letter
letter_at w g a = traitor_letter_with signed_kind w.scenario w.closed g (program_of w.scenario g) (accesses_of g (drop w.opened w.ledger)) a.state.steps a

his : (w : World) (g : ℕ) (a : Activation) → find (λ l. l.general == g) (letters_at signed_kind w g (Some (Acting a))) ≡ Some (letter_at w g a)
his w g a = rw (eq-eqb g g refl) refl

found_at_close : (w : World) (g : ℕ) (a : Activation) → g < w.scenario.generals → slice_get w.parts g ≡ Some (Acting a) → letter_of (round_letters signed_kind w) g ≡ Some (letter_at w g a)
found_at_close w g a lt at =
    each-find w.scenario.generals (λ l. l.general == g) (λ j. letters_at signed_kind w j (slice_get w.parts j)) g (letter_at w g a) lt
    (λ j ne. not_his w g j (slice_get w.parts j) ne)
    (ap (λ o. find (λ l. l.general == g) (letters_at signed_kind w g o)) at ∙ his w g a)

closed_with : (s : Scenario) (events : List Event) → round_open (played s events).scenario (played s events).closed ≡ true
    → (played s (events ++ Close ∷ [])).closed ≡ (played s events).closed ++ round_letters signed_kind (played s events) ∷ []
closed_with s events more =
    ap (λ (w : World). w.closed) (run-append signed_kind events (Close ∷ []) (opening signed_kind s) ∙ close_open signed_kind (played s events) more)

-- When the round is closed, he sends the chains of his entries.
sent_at_close : (s : Scenario) (events : List Event) (g : ℕ) (a : Activation) → IsScenario s → slice_get (played s events).parts g ≡ Some (Acting a)
    → sent_by (sent_after s (events ++ Close ∷ [])) (suc (length (played s events).closed)) g ≡ dispatched s.generals s.commander g (held_in s (played s events).closed g) a.state.entries
sent_at_close s events g a is at =
    let w = played s events in
    let p = placed_at signed_kind s w g a (ran signed_kind s w g a (standing signed_kind s events (signed_campaigns s is)).midway at) in
    let same : w.scenario ≡ s = run_scenario signed_kind events (opening signed_kind s) in
    let within : g < w.scenario.generals = (let A : Scenario → Type 0 = λ t. g < t.generals in subst A (sym same) p.general) in
    let open_then : round_open s w.closed ≡ true = lt-ltb (length w.closed) (suc s.bound) (let le = p.rounds in omega arith) in
    let more : round_open w.scenario w.closed ≡ true = (let A : Scenario → Type 0 = λ t. round_open t w.closed ≡ true in subst A (sym same) open_then) in
    let sent = sent_in s w.closed in
    let row = round_sent s sent (round_letters signed_kind w) in
    let f : ℕ → List Dispatch = λ h. sends s sent h (letter_of (round_letters signed_kind w) h) in
    ap (λ (xs : Sent). sent_by xs (suc (length w.closed)) g) (ap (sent_in s) (closed_with s events more) ∙ sent_more s w.closed (round_letters signed_kind w))
    ∙ (ap (λ (n : ℕ). sent_by (sent ++ row ∷ []) (suc n) g) (sym (sent_length s w.closed))
    ∙ (sent_last sent row g
    ∙ (get_or_at (map f (generals s.generals)) g (f g) [] (row_at f s.generals g p.general)
    ∙ ap (sends s sent g) (found_at_close w g a within at))))

pub proved_entries_are_sent : SignedEntriesAreSent
proved_entries_are_sent = record {
  agree = λ s events g a e is at. (has_entered s events g a is at).agree e;
  each = λ s events g a is at. (has_entered s events g a is at).each;
  few = λ s events g a is at. (has_entered s events g a is at).few;
  sent = sent_at_close;
}
