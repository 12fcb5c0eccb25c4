-- The texts that an audit accepts are the chronicles of complete runs.
use Rattle.std.proofs.Common.{◌≡◌, ℕ, suc, List, [], ◌∷◌, ◌++◌, length, take, drop, subst, sym, ap, ◌∙◌, arith}
use Rattle.std.specs.Prelude.{sum_by}
use Rattle.std.proofs.lemmas.List.{take-append-drop}
use Rattle.board.specs.Board.{Access}
use Rattle.world.specs.declared.event.Event.{Event}
use Rattle.round.specs.Scenario.{Scenario, IsScenario}
use Rattle.round.specs.Letters.{Letter}
use Rattle.world.specs.World.{oral_kind, opening, run}
use Rattle.world.specs.Accounted.{AreAccounted}
use Rattle.world.specs.Lists.{IsComplete, names_in, replayed}
use Rattle.world.specs.Chronicle.{chronicle_of}
use Rattle.world.proofs.Lasting.{replayed_complete}
use Rattle.world.proofs.Replaying.{runs_are_replays, runs_are_accounted}
use Rattle.trace.specs.Text.{text_in}
use Rattle.trace.specs.declared.version.Version.{Version}
use Rattle.trace.specs.Names.{names_of, chronicle_told}
use Rattle.trace.specs.Laws.{IsSoundText, IsRunText, SoundTextsAreRuns}
use Rattle.trace.proofs.Naming.{AreKnown, known_all, names_told}
use Rattle.world.proofs.Campaigns.{oral_campaigns}

known-append : (xs ys : List Access) → AreKnown xs → AreKnown ys → AreKnown (xs ++ ys)
known-append [] ys p q = q
known-append (x ∷ xs) ys p q = (p.0, known-append xs ys p.1 q)

-- A ledger that accounts for letters has only accesses by generals.
known_accounted : (s : Scenario) → IsScenario s → (before : List (List Letter)) (ledger : List Access) (rounds : List (List Letter)) → AreAccounted s before ledger rounds → AreKnown ledger
known_accounted s is before ledger [] h = subst AreKnown (sym h.1) tt
known_accounted s is before ledger (letters ∷ rounds) h =
    let n : ℕ = sum_by (λ l. length l.transcript) letters in
    let few = is.few in
    let front : AreKnown (take n ledger) = known_all (take n ledger) (λ k d lt. let e = (h.0.entries k d lt).0 in omega arith) in
    let back : AreKnown (drop n ledger) = known_accounted s is (before ++ letters ∷ []) (drop n ledger) rounds h.1 in
    subst AreKnown (take-append-drop n ledger) (known-append (take n ledger) (drop n ledger) front back)

-- The generals named in a complete run's text are those of its ledger.
names_replay : (v : Version) (s : Scenario) (events : List Event) → IsScenario s → IsComplete s events
    → names_of (text_in v (chronicle_of (run (opening s) events))) ≡ names_in 1 (run (opening s) events).ledger (suc s.bound)
names_replay v s events is complete =
    let w = run (opening s) events in
    let accounts = ((runs_are_accounted oral_kind oral_campaigns).rounds s events is complete).1 in
    names_told v (chronicle_of w) (known_accounted s is [] w.ledger w.closed accounts) ∙ ap (names_in 1 w.ledger) complete.closed

run_sound : (s : Scenario) (t : List ℕ) → IsScenario s → IsRunText s t → IsSoundText s t
unfolding chronicle_told
run_sound s t is h =
    let w = run (opening s) h.events in
    let names : names_of t ≡ names_in 1 w.ledger (suc s.bound) = ap names_of h.same ∙ names_replay h.version s h.events is h.complete in
    record {
      version = h.version;
      admitted = h.admitted;
      same = h.same ∙ ap (text_in h.version) (ap chronicle_of (sym ((runs_are_replays oral_kind oral_campaigns).worlds s h.events is h.complete))) ∙ ap (λ (n : List (List ℕ)). text_in h.version (chronicle_of (run (opening s) (replayed s n)))) (sym names);
    }

pub proved_sound_texts_are_runs : SoundTextsAreRuns
unfolding chronicle_told
proved_sound_texts_are_runs s t is = (
  (λ h. record { version = h.version; admitted = h.admitted; events = replayed s (names_of t); complete = replayed_complete oral_kind s (oral_campaigns s is) (names_of t); same = h.same }),
  run_sound s t is,
)
