-- After punctual events every loyal general has posted in each closed round. No event changes the scenario.
use Rattle.std.proofs.Common.{◌≡◌, ℕ, suc, List, [], ◌∷◌, Bool, true, false, cond, refl, ap, ◌∙◌, Some}
use Rattle.std.specs.Prelude.{slice_get, ◌&&◌}
use Rattle.std.specs.List.{list_all}
use Rattle.world.specs.declared.event.Event.{Event}
use Rattle.world.specs.declared.event.Event.TheVariants.{Tick, Post, Close}
use Rattle.round.specs.Scenario.{Scenario}
use Rattle.world.specs.Part.{Progress, owes_no_letter}
use Rattle.world.specs.Kind.{Kind, World, opening, round_open, closing, happen, run}
use Rattle.world.specs.KindLists.{Throughout, AtClose, OwesNoLetter, IsPunctual}
use Rattle.world.proofs.Moves.{move_same}

pub all_posted : (parts : List Progress) → ((g : ℕ) (part : Progress) → slice_get parts g ≡ Some part → OwesNoLetter part) → list_all owes_no_letter parts ≡ true
all_posted [] h = refl
all_posted (p ∷ ps) h = rw (h 0 p refl) (all_posted ps (λ g part e. h (suc g) part e))

module _ (K : Kind) where
  event_full : (w : World) (e : Event) → w.full ≡ true → AtClose OwesNoLetter w e → (happen K w e).full ≡ true
  event_full w (Tick g) full at = (move_same K w (Tick g) tt).full ∙ full
  event_full w (Post g) full at = (move_same K w (Post g) tt).full ∙ full
  event_full w Close full at = by (round_open w.scenario w.closed)
    where
      by : (b : Bool) → (cond b (closing K w) w).full ≡ true
      by true = ap (λ b. b && list_all owes_no_letter w.parts) full ∙ all_posted w.parts at
      by false = full

  events_full : (es : List Event) (w : World) → w.full ≡ true → Throughout K (AtClose OwesNoLetter) w es → (run K w es).full ≡ true
  events_full [] w full q = full
  events_full (e ∷ es) w full q = events_full es (happen K w e) (event_full w e full q.0) q.1

  pub punctual_full : (s : Scenario) (es : List Event) → IsPunctual K s es → (run K (opening K s) es).full ≡ true
  punctual_full s es q = events_full es (opening K s) refl q

  pub event_scenario : (w : World) (e : Event) → (happen K w e).scenario ≡ w.scenario
  event_scenario w (Tick g) = (move_same K w (Tick g) tt).scenario
  event_scenario w (Post g) = (move_same K w (Post g) tt).scenario
  event_scenario w Close = by (round_open w.scenario w.closed)
    where
      by : (b : Bool) → (cond b (closing K w) w).scenario ≡ w.scenario
      by true = refl
      by false = refl

  pub run_scenario : (es : List Event) (w : World) → (run K w es).scenario ≡ w.scenario
  run_scenario [] w = refl
  run_scenario (e ∷ es) w = run_scenario es (happen K w e) ∙ event_scenario w e
