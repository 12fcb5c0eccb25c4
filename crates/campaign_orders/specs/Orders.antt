-- The orders in which the accesses of a campaign can come, and what such an order determines (own).
use Rattle.std.specs.Prelude.{ℕ, zero, suc, ◌≡◌, ◌↔◌, Bool, true, false, List, [], ◌∷◌, ◌++◌, length, slice_get, Option, Some}
use Rattle.round.specs.Scenario.{Scenario, IsScenario}
use Rattle.round.specs.Activation.{Activation, Turn, Goes, Asks, Ended, turn}
use Rattle.world.specs.declared.event.Event.{Event}
use Rattle.world.specs.declared.part.Progress.{Progress}
use Rattle.world.specs.declared.part.Progress.TheVariants.{Acting}
use Rattle.world.specs.Kind.{Kind, World, opening, run}
use Rattle.world.specs.KindLists.{IsComplete, ticks_named, names_events, wound_up, replayed, names_in}

-- Returns the order of a run's accesses: for each round the generals who made them, as in the ledger.
abbrev pub order_of : Kind → Scenario → List Event → List (List ℕ)
order_of K s events = names_in 1 (run K (opening K s) events).ledger (suc s.bound)

-- States that this is the order of the accesses of some complete run.
abbrev pub IsOrder : Kind → Scenario → List (List ℕ) → Type 0
IsOrder K s order = (events : List Event) × IsComplete K s events × (order_of K s events ≡ order)

-- Returns whether this turn is a request, or `later` holds for the activation after it.
abbrev pub asks_or : (Activation → Bool) → Turn → Bool
asks_or later (Goes a) = later a
asks_or later (Asks request answered) = true
asks_or later Ended = false

-- Returns whether the activation makes a request within this number of turns.
abbrev pub asks_within : ℕ → Activation → Bool
asks_within zero a = false
asks_within (suc k) a = asks_or (asks_within k) (turn a)

-- Returns whether a general with this part makes a further access in the open round.
abbrev pub will_ask : Option Progress → Bool
will_ask (Some (Acting a)) = asks_within (length a.program) a
will_ask _ = false

-- Returns the world after the general's next access.
abbrev pub past : Kind → World → ℕ → World
past K w g = run K w (ticks_named g (slice_get w.parts g))

-- States that these generals can make their next accesses in this order, and that nobody then makes a further access in
-- the round.
abbrev pub IsRoundFrom : Kind → World → List ℕ → Type 0
IsRoundFrom K w [] = (g : ℕ) → will_ask (slice_get w.parts g) ≡ false
IsRoundFrom K w (g ∷ names) = (will_ask (slice_get w.parts g) ≡ true) × IsRoundFrom K (past K w g) names

-- Returns the world after the round in which these generals make accesses in this order and the round is then finished.
abbrev pub behind : Kind → World → List ℕ → World
behind K w names = run K w (names_events K w names ++ wound_up w.scenario)

-- States that this is an order of the accesses of `k` rounds, with all accesses of each round.
abbrev pub IsFrom : Kind → World → ℕ → List (List ℕ) → Type 0
IsFrom K w zero order = order ≡ []
IsFrom K w (suc k) [] = ⊥
IsFrom K w (suc k) (names ∷ order) = IsRoundFrom K w names × IsFrom K (behind K w names) k order

-- States that complete runs with the same order of accesses end in the same world, as does the replay of that order.
-- The accesses of the replay come in this order. The orders are exactly the sequences that result from choosing, again
-- and again, which general makes the next access.
pub record OrdersDecide (K : Kind) : Type 0 where
  pub worlds : (s : Scenario) (events others : List Event) → IsScenario s → IsComplete K s events →
      IsComplete K s others →
      order_of K s events ≡ order_of K s others → run K (opening K s) events ≡ run K (opening K s) others
  pub runs : (s : Scenario) (events : List Event) → IsScenario s → IsComplete K s events →
      run K (opening K s) (replayed K s (order_of K s events)) ≡ run K (opening K s) events
  pub replays : (s : Scenario) (order : List (List ℕ)) → IsScenario s → IsOrder K s order →
      IsComplete K s (replayed K s order) × (order_of K s (replayed K s order) ≡ order)
  pub steps : (s : Scenario) (order : List (List ℕ)) → IsScenario s →
      IsOrder K s order ↔ IsFrom K (opening K s) (suc s.bound) order
