-- Events that change nothing, in oral or signed campaigns. Each law is the contract of a function, in this crate for
-- oral ones.
use Rattle.std.specs.Prelude.{ℕ, ◌≡◌, true, List, slice_get, None, Some}
use Rattle.round.specs.Scenario.{Scenario}
use Rattle.round.specs.Activation.{Activation, has_ended}
use Rattle.world.specs.declared.event.Event.{Event}
use Rattle.world.specs.declared.event.Event.TheVariants.{Tick, Post}
use Rattle.world.specs.declared.event.EventError.{EventError}
use Rattle.world.specs.Part.{Acting, Posted}
use Rattle.world.specs.Kind.{Kind, opening, happen, run, refusal}

-- States that a rejected event leaves the world unchanged.
abbrev pub RefusalsChangeNothing : Kind → Type 0
RefusalsChangeNothing K = (s : Scenario) (events : List Event) (e : Event) (r : EventError) →
    refusal (run K (opening K s) events) e ≡ Some r →
    happen K (run K (opening K s) events) e ≡ run K (opening K s) events

-- States that a tick of an activation that has ended, and a second post of a general in a round, are accepted but leave
-- the world unchanged.
pub record IdleEventsChangeNothing (K : Kind) : Type 0 where
  pub tick : (s : Scenario) (events : List Event) (g : ℕ) (a : Activation) →
      slice_get (run K (opening K s) events).parts g ≡ Some (Acting a) → has_ended a ≡ true →
      (refusal (run K (opening K s) events) (Tick g) ≡ None)
      × (happen K (run K (opening K s) events) (Tick g) ≡ run K (opening K s) events)
  pub post : (s : Scenario) (events : List Event) (g : ℕ) →
      slice_get (run K (opening K s) events).parts g ≡ Some Posted →
      (refusal (run K (opening K s) events) (Post g) ≡ None)
      × (happen K (run K (opening K s) events) (Post g) ≡ run K (opening K s) events)
