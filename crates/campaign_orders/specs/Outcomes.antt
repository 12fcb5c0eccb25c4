-- The outcome of a campaign, which for oral campaigns is the lieutenants' decisions (own).
use Rattle.std.specs.Prelude.{ℕ, List}
use Rattle.round.specs.Scenario.{Scenario}
use Rattle.round.specs.Letters.{messages}
use Rattle.world.specs.declared.event.Event.{Event}
use Rattle.world.specs.Chronicle.{decisions}
use Rattle.world.specs.Kind.{Kind, World, opening, run}
use Rattle.world.specs.KindLists.{replayed}

-- A function that computes the outcome from the world of a finished campaign.
abbrev pub Outcome : Type 0
Outcome = World → List ℕ

-- Returns the outcome of an oral campaign: the order on which each lieutenant decides, ascending by lieutenant.
abbrev pub oral_outcome : Outcome
oral_outcome w = decisions w.scenario (messages w.closed)

-- Returns the outcome of the campaign in which these events happen.
abbrev pub outcome_in : Kind → Outcome → Scenario → List Event → List ℕ
outcome_in K D s events = D (run K (opening K s) events)

-- Returns the outcome of the replay of this order of accesses.
abbrev pub outcome_of : Kind → Outcome → Scenario → List (List ℕ) → List ℕ
outcome_of K D s order = outcome_in K D s (replayed K s order)
