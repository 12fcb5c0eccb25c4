-- Schedules under which a campaign's accesses come in a given order (own).
use Rattle.std.specs.Prelude.{ℕ, ◌≡◌, List, [], ◌∷◌, length, slice_get}
use Rattle.round.specs.Scenario.{Scenario, IsScenario}
use Rattle.world.specs.declared.event.Event.{Event}
use Rattle.world.specs.declared.schedule.Repeat.{Repeat}
use Rattle.world.specs.Kind.{Kind, World, opening, run}
use Rattle.world.specs.KindLists.{IsComplete, listed, replayed, ticks_named}
use Rattle.world.specs.Schedules.{lines_by}
use Rattle.campaign_orders.specs.Orders.{past, behind, order_of, IsOrder}
use Rattle.campaign_orders.specs.Walks.{AreWalks, IsCompletion}

-- Returns the schedule's line for a round in which these generals make accesses in this order. It has one entry for
-- each access, with the number of steps that the general takes up to and including it.
abbrev pub entries_from : Kind → World → List ℕ → List Repeat
entries_from K w [] = []
entries_from K w (g ∷ names) =
    record { general = g; times = length (ticks_named g (slice_get w.parts g)) } ∷ entries_from K (past K w g) names

-- Returns the schedule under which these generals, by round, make their accesses in this order.
abbrev pub schedule_from : Kind → World → List (List ℕ) → List (List Repeat)
schedule_from K w [] = []
schedule_from K w (names ∷ order) = entries_from K w names ∷ schedule_from K (behind K w names) order

-- States that playing a campaign by the schedule for `names` has the same events as the replay of `names`. In each
-- round the generals in `names` make their accesses first, and then the others, ascending. So there is a schedule for
-- every order of accesses, and every complete run can be repeated by one.
pub record OrdersAreSchedules (K : Kind) : Type 0 where
  pub played : (s : Scenario) (names : List (List ℕ)) → IsScenario s → AreWalks K (opening K s) names →
      listed s (lines_by (schedule_from K (opening K s) names)) ≡ replayed K s names
  pub completes : (s : Scenario) (names : List (List ℕ)) → IsScenario s → AreWalks K (opening K s) names →
      IsCompletion names (order_of K s (replayed K s names))
  pub orders : (s : Scenario) (order : List (List ℕ)) → IsScenario s → IsOrder K s order →
      AreWalks K (opening K s) order
  pub again : (s : Scenario) (events : List Event) → IsScenario s → IsComplete K s events →
      run K (opening K s) (listed s (lines_by (schedule_from K (opening K s) (order_of K s events))))
      ≡ run K (opening K s) events
