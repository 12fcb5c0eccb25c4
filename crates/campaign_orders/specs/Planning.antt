-- The result of making a schedule for an order of accesses (own).
use Rattle.std.specs.Prelude.{ℕ, ◌≡◌, true, false, List, length, slice_get, Option, None, Some}
use Rattle.round.specs.Scenario.{Scenario}
use Rattle.world.specs.Kind.{Kind, World, opening, run}
use Rattle.world.specs.declared.event.Event.{Event}
use Rattle.world.specs.KindLists.{IsComplete, listed, replayed, ticks_named, names_events}
use Rattle.world.specs.Schedules.{lines_by}
use Rattle.campaign_orders.specs.declared.schedule_outcome.Line.{Line}
use Rattle.campaign_orders.specs.declared.schedule_outcome.Line.TheVariants.{Made, Stuck}
use Rattle.campaign_orders.specs.declared.schedule_outcome.Scheduled.{Scheduled}
use Rattle.campaign_orders.specs.declared.schedule_outcome.Scheduled.TheVariants.{By, Never}
use Rattle.campaign_orders.specs.Orders.{will_ask, past, order_of}
use Rattle.campaign_orders.specs.Walks.{IsWalk, AreWalks, IsStuckAt, IsStuckIn, IsCompletion}
use Rattle.campaign_orders.specs.Schedules.{entries_from, schedule_from}

-- States that general `g` makes his next access in this number of steps, and the world is `v` after it. The number is
-- `None` if he makes no further access in the round.
abbrev pub IsStepTo : Kind → World → ℕ → World → Option ℕ → Type 0
IsStepTo K w g v None = will_ask (slice_get w.parts g) ≡ false
IsStepTo K w g v (Some steps) =
    (will_ask (slice_get w.parts g) ≡ true) × (steps ≡ length (ticks_named g (slice_get w.parts g))) × (v ≡ past K w g)

-- States that this is the schedule's line for a round in which the generals in `names` make their accesses in this
-- order, after which the world is `v`. If that is impossible, it is the first index in `names` whose general makes no
-- further access.
abbrev pub IsLineOf : Kind → World → List ℕ → World → Line → Type 0
IsLineOf K w names v (Made entries) =
    IsWalk K w names × (entries ≡ entries_from K w names) × (v ≡ run K w (names_events K w names))
IsLineOf K w names v (Stuck place) = IsStuckAt K w names place

-- States that this is the schedule from the world `w` on under which the generals in `names`, by round, make their
-- accesses in this order. If that is impossible, it is the first round and index whose general makes no further access.
abbrev pub IsScheduleOf : Kind → World → List (List ℕ) → Scheduled → Type 0
IsScheduleOf K w names (By schedule) = AreWalks K w names × (schedule ≡ schedule_from K w names)
IsScheduleOf K w names (Never round place) = IsStuckIn K w names round place

-- States that under this schedule the generals in `names` make their accesses first in each round, in this order. If
-- there is no schedule, they cannot do so.
abbrev pub IsPlan : Kind → Scenario → List (List ℕ) → Scheduled → Type 0
IsPlan K s names (By schedule) = (listed s (lines_by schedule) ≡ replayed K s names)
    × IsCompletion names (order_of K s (listed s (lines_by schedule)))
IsPlan K s names (Never round place) = AreWalks K (opening K s) names → ⊥

-- States that the campaign that is played by the schedule ends in the same world as the one in which these events
-- happen.
abbrev pub ComesAgain : Kind → Scenario → List Event → Scheduled → Type 0
ComesAgain K s events (By schedule) = run K (opening K s) (listed s (lines_by schedule)) ≡ run K (opening K s) events
ComesAgain K s events (Never round place) = ⊥

-- States that, if `names` is the order of the accesses of a complete run, the schedule repeats that run.
abbrev pub BringsBack : Kind → Scenario → List (List ℕ) → Scheduled → Type 0
BringsBack K s names scheduled =
    (events : List Event) → IsComplete K s events → names ≡ order_of K s events → ComesAgain K s events scheduled
