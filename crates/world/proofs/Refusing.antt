-- A rejected event leaves the world unchanged.
use Rattle.std.proofs.Common.{◌≡◌, ℕ, List, [], ◌∷◌, length, Bool, true, false, cond, refl, sym, ap, ◌∙◌, Option, Some, None}
use Rattle.std.specs.Prelude.{slice_get}
use Rattle.world.specs.declared.event.Event.{Event}
use Rattle.world.specs.declared.event.Event.TheVariants.{Tick, Post, Close}
use Rattle.round.specs.Scenario.{Scenario, program_of}
use Rattle.round.specs.Letters.{Letter}
use Rattle.world.specs.Part.{Progress, Acting, Silent, Posted}
use Rattle.world.specs.Refusals.{IdleEventsChangeNothing}
use Rattle.round.proofs.Going.{over_ended}
use Rattle.world.specs.Kind.{Kind, World, each, begins, round_open, opening, served, ticked, posting, closing, happen, run, unfit, named_by, refusal}
use Rattle.world.specs.declared.event.EventError.{EventError}
use Rattle.world.specs.declared.event.EventError.TheVariants.{NotOpen}
use Rattle.world.specs.KindLists.{IsMove}
use Rattle.world.proofs.Moves.{move_same}
use Rattle.std.proofs.lemmas.List.{nil_from_length}

-- States that after the last round nobody has a part.
abbrev IsClear : World → Type 0
IsClear w = round_open w.scenario w.closed ≡ false → w.parts ≡ []

tick_still : (w : World) (g : ℕ) (r : EventError) (o : Option Progress) → unfit (Tick g) o ≡ Some r → ticked w g o ≡ w
tick_still w g r None e = refl
tick_still w g r (Some (Acting a)) e = absurd (let f : None ≡ Some r = e in cc)
tick_still w g r (Some Silent) e = refl
tick_still w g r (Some Posted) e = refl

post_still : (w : World) (g : ℕ) (r : EventError) (o : Option Progress) → unfit (Post g) o ≡ Some r → posting w g o ≡ w
post_still w g r None e = refl
post_still w g r (Some (Acting a)) e = refl
post_still w g r (Some Silent) e = absurd (let f : None ≡ Some r = e in cc)
post_still w g r (Some Posted) e = refl

-- If somebody has a part, a round is open.
part_open : (w : World) → IsClear w → (g : ℕ) (part : Progress) → slice_get w.parts g ≡ Some part → round_open w.scenario w.closed ≡ true
part_open w clear g part at = by (round_open w.scenario w.closed) refl
  where
    by : (b : Bool) → round_open w.scenario w.closed ≡ b → b ≡ true
    by true e = refl
    by false e = absurd (let f : None ≡ Some part = ap (λ (ps : List Progress). slice_get ps g) (sym (clear e)) ∙ at in cc)

module _ (K : Kind) where
  clear_begins : (s : Scenario) (closed : List (List Letter)) (b : Bool) → b ≡ false → cond b (each s.generals (λ g. begins K s closed g (program_of s g) ∷ [])) [] ≡ []
  clear_begins s closed true e = absurd (let f : true ≡ false = e in cc)
  clear_begins s closed false e = refl

  move_clear : (w : World) (e : Event) → IsMove e → IsClear w → IsClear (happen K w e)
  move_clear w e i h = λ past.
      let same = move_same K w e i in
      let before = h ((λ i. round_open (sym same.scenario i) (sym same.closed i)) ∙ past) in
      nil_from_length (happen K w e).parts (same.count ∙ ap length before)

  event_clear : (w : World) (e : Event) → IsClear w → IsClear (happen K w e)
  event_clear w (Tick g) h = move_clear w (Tick g) tt h
  event_clear w (Post g) h = move_clear w (Post g) tt h
  event_clear w Close h = by (round_open w.scenario w.closed)
    where
      by : (b : Bool) → IsClear (cond b (closing K w) w)
      by true = λ past. clear_begins w.scenario (closing K w).closed (round_open w.scenario (closing K w).closed) past
      by false = h

  run_clear : (es : List Event) (w : World) → IsClear w → IsClear (run K w es)
  run_clear [] w h = h
  run_clear (e ∷ es) w h = run_clear es (happen K w e) (event_clear w e h)

  closed_still : (w : World) (e : Event) → round_open w.scenario w.closed ≡ false → w.parts ≡ [] → happen K w e ≡ w
  closed_still w (Tick g) past none = ap (λ (ps : List Progress). ticked w g (slice_get ps g)) none
  closed_still w (Post g) past none = ap (λ (ps : List Progress). posting w g (slice_get ps g)) none
  closed_still w Close past none = ap (λ b. cond b (closing K w) w) past

  open_still : (w : World) (e : Event) (r : EventError) → unfit e (slice_get w.parts (named_by e)) ≡ Some r → happen K w e ≡ w
  open_still w (Tick g) r h = tick_still w g r (slice_get w.parts g) h
  open_still w (Post g) r h = post_still w g r (slice_get w.parts g) h
  open_still w Close r h = absurd (let f : None ≡ Some r = h in cc)

  refused_still : (w : World) (e : Event) (r : EventError) → IsClear w → refusal w e ≡ Some r → happen K w e ≡ w
  refused_still w e r clear h = by (round_open w.scenario w.closed) refl h
    where
      by : (b : Bool) → round_open w.scenario w.closed ≡ b → cond b (unfit e (slice_get w.parts (named_by e))) (Some NotOpen) ≡ Some r → happen K w e ≡ w
      by true open' h' = open_still w e r h'
      by false past h' = closed_still w e past (clear past)

  pub proved_refusals_change_nothing : (s : Scenario) (events : List Event) (e : Event) (r : EventError) → refusal (run K (opening K s) events) e ≡ Some r → happen K (run K (opening K s) events) e ≡ run K (opening K s) events
  proved_refusals_change_nothing s events e r h =
      refused_still (run K (opening K s) events) e r (run_clear events (opening K s) (λ past. clear_begins s [] (round_open s []) past)) h

  runs_clear : (s : Scenario) (events : List Event) → IsClear (run K (opening K s) events)
  runs_clear s events = run_clear events (opening K s) (λ past. clear_begins s [] (round_open s []) past)

  pub proved_idle_events_change_nothing : IdleEventsChangeNothing K
  proved_idle_events_change_nothing = record {
    tick = λ s events g a at ended.
        let w = run K (opening K s) events in
        (rw (part_open w (runs_clear s events) g (Acting a) at, at) refl, ap (ticked w g) at ∙ ap (served w g) (over_ended a ended));
    post = λ s events g at.
        let w = run K (opening K s) events in
        (rw (part_open w (runs_clear s events) g Posted at, at) refl, ap (posting w g) at);
  }
