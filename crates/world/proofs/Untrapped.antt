-- In every run no activation traps, and none takes more steps than its program has instructions.
use Rattle.std.proofs.Common.{◌≡◌, ◌≢◌, ℕ, zero, suc, ◌<◌, List, [], ◌∷◌, ◌++◌, length, Bool, true, false, cond, refl, sym, ap, subst, ◌∙◌, Option, Some, None, arith, All}
use Rattle.std.specs.Prelude.{slice_get}
use Rattle.std.proofs.lemmas.List.Elements.{All-append, All-nil}
use Rattle.semantics.specs.State.{Cause, Outcome, Trap}
use Rattle.semantics.specs.Execution.{step}
use Rattle.semantics.specs.Safety.{LeadsTo}
use Rattle.semantics.proofs.SafetyLaws.{IsSafe-no_trap}
use Rattle.world.specs.declared.event.Event.{Event}
use Rattle.world.specs.declared.event.Event.TheVariants.{Tick, Post, Close}
use Rattle.round.specs.Scenario.{Scenario, program_of}
use Rattle.round.specs.Letters.{Letter}
use Rattle.round.specs.Activation.{Activation, has_ended}
use Rattle.world.specs.Part.{Progress, Acting, Silent, Posted}
use Rattle.world.specs.Kind.{Kind, loyal_letter, World, each, begun, opening, round_open, letters_at, round_letters, closing, happen, run}
use Rattle.world.specs.Safety.{IsShort, ActivationsAreSafe}
use Rattle.world.proofs.Moves.{AllParts, move_same}
use Rattle.world.proofs.Rounds.{closing_kept}
use Rattle.world.proofs.Due.{IsDue, Due, due_few, due_parts}
use Rattle.world.proofs.Lasting.{IsOnTime, moves_due, opening_due, few}
use Rattle.world.specs.Campaigns.{IsCampaign, AreCampaigns}

pub one_letter : (P : Letter → Type 0) (l : Letter) → P l → All P (l ∷ [])
one_letter P l h zero d lt = h
one_letter P l h (suc k) d lt = absurd (omega arith)

each_all : (P : Letter → Type 0) (n : ℕ) (f : ℕ → List Letter) → ((g : ℕ) → All P (f g)) → All P (each n f)
each_all P zero f h = All-nil P
each_all P (suc n) f h = All-append P (each n f) (f n) (each_all P n f h) (h n)

one_round : (P : List Letter → Type 0) (l : List Letter) → P l → All P (l ∷ [])
one_round P l h zero d lt = h
one_round P l h (suc k) d lt = absurd (omega arith)

pub untrapped : (s : Scenario) (g : ℕ) (a : Activation) (cause : Cause) → IsDue s g a → has_ended a ≡ false → step a.program a.context a.relay a.state ≢ Trap cause
untrapped s g a cause d on e =
    let h = IsSafe-no_trap a.program a.context a.relay d.left a.state (d.going on) in
    (let A : Outcome → Type 0 = λ o. LeadsTo (λ next. Unit {0}) o in subst A e h)

module _ (K : Kind) where
  letter_short : (w : World) (s : Scenario) → IsOnTime K s w → (g : ℕ) (o : Option Progress) → slice_get w.parts g ≡ o → All IsShort (letters_at K w g o)
  letter_short w s t g None e = All-nil IsShort
  letter_short w s t g (Some (Acting a)) e = one_letter IsShort _ (λ p is.
      let d = t.due g (Acting a) e in
      let same : a.program ≡ p = (let f = sym d.program ∙ (ap (λ v. program_of v g) (sym t.scenario) ∙ is) in cc) in
      (let n = ap length same in let l = d.within in omega arith))
  letter_short w s t g (Some Silent) e = All-nil IsShort
  letter_short w s t g (Some Posted) e = one_letter IsShort (loyal_letter K w.scenario w.closed g) (λ p is. absurd (let f : None ≡ Some p = is in cc))

  round_short : (w : World) (s : Scenario) → IsOnTime K s w → All IsShort (round_letters K w)
  round_short w s t = each_all IsShort w.scenario.generals (λ g. letters_at K w g (slice_get w.parts g)) (λ g. letter_short w s t g (slice_get w.parts g) refl)

  -- States that the activations end in time and the letters have few steps.
  pub record IsHeld (s : Scenario) (w : World) : Type 0 where
    pub timely : IsOnTime K s w
    pub short : All (λ letters. All IsShort letters) w.closed

  pub closing_due : (s : Scenario) (w : World) → IsCampaign K s → IsOnTime K s w → length w.closed < suc w.scenario.bound → IsOnTime K s (closing K w)
  closing_due s w is t more =
      let closed' = w.closed ++ round_letters K w ∷ [] in
      record {
        scenario = t.scenario;
        kept = closing_kept K w t.kept more;
        due = (let A : Scenario → Type 0 = λ v. AllParts (Due s) (begun K v closed' w.words w.ledger true).parts in
            subst A (sym t.scenario) (due_parts K s closed' (round_open s closed') is (λ e. few (length closed') s.bound e)));
      }

  event_held : (s : Scenario) (w : World) (e : Event) → IsCampaign K s → IsHeld s w → IsHeld s (happen K w e)
  event_held s w (Tick g) is h = record {
    timely = moves_due K s (Tick g ∷ []) w (tt, tt) h.timely;
    short = (let A : List (List Letter) → Type 0 = λ c. All (λ letters. All IsShort letters) c in subst A (sym (move_same K w (Tick g) tt).closed) h.short);
  }
  event_held s w (Post g) is h = record {
    timely = moves_due K s (Post g ∷ []) w (tt, tt) h.timely;
    short = (let A : List (List Letter) → Type 0 = λ c. All (λ letters. All IsShort letters) c in subst A (sym (move_same K w (Post g) tt).closed) h.short);
  }
  event_held s w Close is h = by (round_open w.scenario w.closed) refl
    where
      by : (b : Bool) → round_open w.scenario w.closed ≡ b → IsHeld s (cond b (closing K w) w)
      by true e = record {
        timely = closing_due s w is h.timely (let l = few (length w.closed) w.scenario.bound e in omega arith);
        short = All-append (λ letters. All IsShort letters) w.closed (round_letters K w ∷ []) h.short (one_round (λ letters. All IsShort letters) (round_letters K w) (round_short w s h.timely));
      }
      by false e = h

  run_held : (s : Scenario) (es : List Event) (w : World) → IsCampaign K s → IsHeld s w → IsHeld s (run K w es)
  run_held s [] w is h = h
  run_held s (e ∷ es) w is h = run_held s es (happen K w e) is (event_held s w e is h)

  -- Every world of a run has this property.
  pub held : (s : Scenario) (es : List Event) → IsCampaign K s → IsHeld s (run K (opening K s) es)
  held s es is = run_held s es (opening K s) is (record { timely = opening_due K s is; short = λ k d lt. absurd (omega arith) })

  pub activations_are_safe : AreCampaigns K → ActivationsAreSafe K
  activations_are_safe good = record {
    untrapped = λ s events g a cause is at. untrapped s g a cause ((held s events (good s is)).timely.due g (Acting a) at);
    fewer = λ s events g a is at. due_few s g a ((held s events (good s is)).timely.due g (Acting a) at);
    letters = λ s events is. (held s events (good s is)).short;
  }
