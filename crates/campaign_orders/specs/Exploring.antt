-- The result of exploring the orders in which a campaign's accesses can come (own).
use Rattle.std.specs.Prelude.{ℕ, ◌≡◌, ◌≢◌, ◌<◌, ◌≤◌, ◌-◌, ◌^◌, min, List, All, length, map, take, find, sum_by, count_by, bytes_eq, Option, Some}
use Rattle.round.specs.Scenario.{Scenario}
use Rattle.world.specs.declared.event.Event.{Event}
use Rattle.world.specs.Kind.{Kind}
use Rattle.world.specs.KindLists.{IsComplete}
use Rattle.campaign_orders.specs.declared.exploration.Reach.{Reach}
use Rattle.campaign_orders.specs.declared.exploration.Reach.TheVariants.{Whole, Beyond, InPart}
use Rattle.campaign_orders.specs.Orders.{IsOrder}
use Rattle.campaign_orders.specs.Listing.{orders, Has, AreDifferent}
use Rattle.campaign_orders.specs.Outcomes.{Outcome, outcome_in, outcome_of}

-- Returns how many of the orders `visited` lead to the decisions `ds`.
abbrev pub ways_among : Kind → Outcome → Scenario → List (List (List ℕ)) → List ℕ → ℕ
ways_among K D s visited ds = count_by (λ order. bytes_eq (outcome_of K D s order) ds) visited

-- Returns how many of all orders of the scenario's accesses lead to the decisions `ds`.
abbrev pub ways_to : Kind → Outcome → Scenario → List ℕ → ℕ
ways_to K D s ds = ways_among K D s (orders K s) ds

-- Returns the first of the orders `visited` that leads to the decisions `ds`, or `None` if there is none.
abbrev pub first_to : Kind → Outcome → Scenario → List (List (List ℕ)) → List ℕ → Option (List (List ℕ))
first_to K D s visited ds = find (λ order. bytes_eq (outcome_of K D s order) ds) visited

-- An outcome that was found: the decisions, how many orders lead to them, and one of these orders as an example.
pub record Finding : Type 0 where
  pub decisions : List ℕ
  pub count : ℕ
  pub example : List (List ℕ)

-- Returns the decisions of each of these findings.
abbrev pub outcomes_of : List Finding → List (List ℕ)
outcomes_of findings = map (λ (f : Finding). f.decisions) findings

-- Returns the sum of these findings' counts.
abbrev pub counted_in : List Finding → ℕ
counted_in findings = sum_by (λ (f : Finding). f.count) findings

-- States that a finding's example is an order that leads to its decisions, and that its count is positive.
pub record IsReal (K : Kind) (D : Outcome) (s : Scenario) (f : Finding) : Type 0 where
  pub example : IsOrder K s f.example
  pub outcome : outcome_of K D s f.example ≡ f.decisions
  pub some : 0 < f.count

-- States that a finding is real, and its count is the exact number of orders that lead to its decisions.
pub record IsFinding (K : Kind) (D : Outcome) (s : Scenario) (f : Finding) : Type 0 where
  pub real : IsReal K D s f
  pub count : f.count ≡ ways_to K D s f.decisions

-- States that a finding is real, and its count is at most the number of orders that lead to its decisions.
pub record IsLowerFinding (K : Kind) (D : Outcome) (s : Scenario) (f : Finding) : Type 0 where
  pub real : IsReal K D s f
  pub count : f.count ≤ ways_to K D s f.decisions

-- States that these findings cover all orders. Each has its exact count, no two have the same decisions, and every
-- complete run leads to the decisions of one of them. Their counts together are the number of all orders.
pub record IsExplored (K : Kind) (D : Outcome) (s : Scenario) (findings : List Finding) : Type 0 where
  pub each : All (IsFinding K D s) findings
  pub different : AreDifferent (outcomes_of findings)
  pub whole : (events : List Event) → IsComplete K s events → Has (outcomes_of findings) (outcome_in K D s events)
  pub total : counted_in findings ≡ length (orders K s)

-- States that these findings cover the `most` least orders, and that there are more orders. Each count is a lower
-- bound.
pub record IsExploredInPart (K : Kind) (D : Outcome) (s : Scenario) (most : ℕ) (findings : List Finding) : Type 0 where
  pub each : All (IsLowerFinding K D s) findings
  pub different : AreDifferent (outcomes_of findings)
  pub total : counted_in findings ≡ most
  pub more : most < length (orders K s)
  pub counts : All (λ (f : Finding). f.count ≡ ways_among K D s (take most (orders K s)) f.decisions) findings

-- States that a finding is real, and its count is exact, or 2 ^ 64 - 1 if the exact count is greater.
pub record IsCappedFinding (K : Kind) (D : Outcome) (s : Scenario) (f : Finding) : Type 0 where
  pub real : IsReal K D s f
  pub count : f.count ≡ min (ways_to K D s f.decisions) (2 ^ 64 - 1)

-- States that these findings cover all orders, of which there are 2 ^ 64 - 1 or more. Each count is exact, or 2 ^ 64 -
-- 1 if the exact count is greater. No two findings have the same decisions, and every complete run leads to the
-- decisions of one of them.
pub record IsExploredBeyond (K : Kind) (D : Outcome) (s : Scenario) (findings : List Finding) : Type 0 where
  pub each : All (IsCappedFinding K D s) findings
  pub different : AreDifferent (outcomes_of findings)
  pub whole : (events : List Event) → IsComplete K s events → Has (outcomes_of findings) (outcome_in K D s events)
  pub many : 2 ^ 64 - 1 ≤ length (orders K s)

-- The result of an exploration: the outcomes found, and how many of the orders they cover.
pub record Exploration : Type 0 where
  pub findings : List Finding
  pub reach : Reach

-- States that this is a result of exploring a scenario with the limit `most`, where 2 ^ 64 - 1 means no limit. The
-- findings cover all orders, or the `most` least ones if there are more. Without a limit there may be too many orders
-- to count. Each example is the least order that leads to its decisions.
pub record IsExploration (K : Kind) (D : Outcome) (s : Scenario) (most : ℕ) (e : Exploration) : Type 0 where
  pub few : e.reach ≢ Beyond → counted_in e.findings ≤ most
  pub all : e.reach ≡ Whole → IsExplored K D s e.findings
  pub beyond : e.reach ≡ Beyond → (most ≡ 2 ^ 64 - 1) × IsExploredBeyond K D s e.findings
  pub part : e.reach ≡ InPart → (most < 2 ^ 64 - 1) × IsExploredInPart K D s most e.findings
  pub least : All (λ (f : Finding). first_to K D s (orders K s) f.decisions ≡ Some f.example) e.findings
