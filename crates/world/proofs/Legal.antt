-- In every run the ledger is legal, and only traitors have made accesses.
use Rattle.std.proofs.Common.{◌≡◌, ℕ, zero, suc, ◌<◌, List, [], ◌∷◌, length, Bool, true, false, cond, refl, sym, ap, subst, ◌∙◌, Option, Some, None, arith, All}
use Rattle.std.specs.Prelude.{slice_get, is_some}
use Rattle.std.proofs.lemmas.List.Elements.{All-append}
use Rattle.insn.specs.declared.insn.Insn.{Insn}
use Rattle.board.specs.Board.{Access, reply, next, words_after, IsLegal}
use Rattle.board.proofs.Histories.{words_after-snoc, IsLegal-snoc}
use Rattle.round.specs.Scenario.{Scenario, program_of, is_traitor}
use Rattle.round.specs.Activation.{Activation, Turn, Goes, Asks, Ended, turn}
use Rattle.world.specs.declared.event.Event.{Event}
use Rattle.world.specs.declared.event.Event.TheVariants.{Tick, Post, Close}
use Rattle.world.specs.Part.{Progress, Acting, Silent, Posted}
use Rattle.world.specs.Kind.{Kind, World, opening, round_open, served, ticked, posting, closing, happen, run}
use Rattle.world.specs.Replay.{LedgersAreLegal}
use Rattle.world.proofs.Kept.{Fits, IsKept}
use Rattle.world.proofs.Rounds.{opening_kept, happen_kept}
use Rattle.world.proofs.Punctual.{event_scenario}

abbrev IsOfTraitor : Scenario → Access → Type 0
IsOfTraitor s a = (a.general < s.generals) × (is_traitor s a.general ≡ true)

record IsRecorded (s : Scenario) (w : World) : Type 0 where
  pub words : w.words ≡ words_after s.board w.ledger
  pub legal : IsLegal s.board w.ledger
  pub traitors : All (λ a. IsOfTraitor s a) w.ledger

one_access : (P : Access → Type 0) (x : Access) → P x → All P (x ∷ [])
one_access P x h zero d lt = h
one_access P x h (suc k) d lt = absurd (omega arith)

acts_traitor : (o : Option (List Insn)) (a : Activation) → Fits o (Acting a) → is_some o ≡ true
acts_traitor None a f = absurd f
acts_traitor (Some p) a f = refl

served_recorded : (s : Scenario) (w : World) (g : ℕ) (o : Turn) → g < s.generals → is_traitor s g ≡ true → IsRecorded s w → IsRecorded s (served w g o)
served_recorded s w g (Goes a) lt is h = record { words = h.words; legal = h.legal; traitors = h.traitors }
served_recorded s w g (Asks q f) lt is h =
    let x : Access = record { general = g; round = suc (length w.closed); request = q; reply = reply w.words q } in
    record {
      words = ap (λ v. next v q) h.words ∙ sym (words_after-snoc s.board w.ledger x);
      legal = IsLegal-snoc s.board w.ledger x h.legal (ap (λ v. reply v q) h.words);
      traitors = All-append (λ a. IsOfTraitor s a) w.ledger (x ∷ []) h.traitors (one_access (λ a. IsOfTraitor s a) x (lt, is));
    }
served_recorded s w g Ended lt is h = h

ticked_recorded : (s : Scenario) (w : World) (g : ℕ) (o : Option Progress) → ((part : Progress) → o ≡ Some part → (g < s.generals) × Fits (program_of s g) part) → IsRecorded s w → IsRecorded s (ticked w g o)
ticked_recorded s w g None own h = h
ticked_recorded s w g (Some (Acting a)) own h =
    let both = own (Acting a) refl in
    served_recorded s w g (turn a) both.0 (acts_traitor (program_of s g) a both.1) h
ticked_recorded s w g (Some Silent) own h = h
ticked_recorded s w g (Some Posted) own h = h

posting_recorded : (s : Scenario) (w : World) (g : ℕ) (o : Option Progress) → IsRecorded s w → IsRecorded s (posting w g o)
posting_recorded s w g None h = h
posting_recorded s w g (Some (Acting a)) h = h
posting_recorded s w g (Some Silent) h = record { words = h.words; legal = h.legal; traitors = h.traitors }
posting_recorded s w g (Some Posted) h = h

module _ (K : Kind) where
  event_recorded : (s : Scenario) (w : World) (e : Event) → w.scenario ≡ s → IsKept K w → IsRecorded s w → IsRecorded s (happen K w e)
  event_recorded s w (Tick g) sc k h =
      let A : Scenario → Type 0 = λ v. (part : Progress) → slice_get w.parts g ≡ Some part → (g < v.generals) × Fits (program_of v g) part in
      ticked_recorded s w g (slice_get w.parts g) (subst A sc (λ part at. k.parts g part at)) h
  event_recorded s w (Post g) sc k h = posting_recorded s w g (slice_get w.parts g) h
  event_recorded s w Close sc k h = by (round_open w.scenario w.closed)
    where
      by : (b : Bool) → IsRecorded s (cond b (closing K w) w)
      by true = record { words = h.words; legal = h.legal; traitors = h.traitors }
      by false = h

  run_recorded : (s : Scenario) (es : List Event) (w : World) → w.scenario ≡ s → IsKept K w → IsRecorded s w → IsRecorded s (run K w es)
  run_recorded s [] w sc k h = h
  run_recorded s (e ∷ es) w sc k h = run_recorded s es (happen K w e) (event_scenario K w e ∙ sc) (happen_kept K w e k) (event_recorded s w e sc k h)

  pub ledgers_are_legal : LedgersAreLegal K
  ledgers_are_legal s events is =
      let r = run_recorded s events (opening K s) refl (opening_kept K s is.board) (record { words = refl; legal = tt; traitors = λ k d lt. absurd (omega arith) }) in
      record { legal = r.legal; words = r.words; traitors = r.traitors }
