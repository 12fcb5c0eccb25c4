-- The list of all orders in which a campaign's accesses can come (own).
use Rattle.std.specs.Prelude.{ℕ, zero, suc, ◌≡◌, ◌≤◌, ◌*◌, ◌↔◌, ◌⊎◌, List, [], ◌∷◌, length, map, flat_map, filter, sum_by, slice_get, Option, None, Some}
use Rattle.insn.specs.declared.insn.Insn.{Insn}
use Rattle.label.specs.Labels.{generals}
use Rattle.round.specs.Scenario.{Scenario, IsScenario}
use Rattle.world.specs.Kind.{Kind, World, opening}
use Rattle.campaign_orders.specs.Orders.{IsOrder, will_ask, past, behind, IsRoundFrom}

-- Returns the generals who make a further access in the open round, ascending.
abbrev pub askers : World → List ℕ
askers w = filter (λ g. will_ask (slice_get w.parts g)) (generals (length w.parts))

-- Returns all lists whose first element is one of the choices and whose other elements are one of the lists that
-- `later` gives for this choice.
abbrev pub branch : {A : Type 0} → List A → (A → List (List A)) → List (List A)
branch choices later = flat_map (λ x. map (λ rest. x ∷ rest) (later x)) choices

-- Returns all lists whose first element is one of these generals and whose other elements are one of the lists that
-- `later` gives for him. If there are no generals, returns only the empty list.
abbrev pub or_end : List ℕ → (ℕ → List (List ℕ)) → List (List ℕ)
or_end [] later = [] ∷ []
or_end (g ∷ gs) later = branch (g ∷ gs) later

-- Returns the orders in which the further accesses of the open round can come, ascending. Orders with more accesses
-- than the given limit are left out.
abbrev pub round_orders : Kind → ℕ → World → List (List ℕ)
round_orders K zero w = or_end (askers w) (λ g. [])
round_orders K (suc k) w = or_end (askers w) (λ g. round_orders K k (past K w g))

-- Returns the orders in which the accesses of `k` rounds can come, ascending. Orders with more than `most` accesses in
-- a round are left out.
abbrev pub orders_from : Kind → ℕ → World → ℕ → List (List (List ℕ))
orders_from K most w zero = [] ∷ []
orders_from K most w (suc k) = branch (round_orders K most w) (λ names. orders_from K most (behind K w names) k)

-- Returns the number of instructions of a program, or 0 if there is none.
abbrev pub instructions : Option (List Insn) → ℕ
instructions None = 0
instructions (Some program) = length program

-- Returns an upper bound on the number of accesses in a round: the number of generals times the number of instructions
-- of all programs together.
abbrev pub most_in_round : Scenario → ℕ
most_in_round s = s.generals * sum_by instructions s.programs

-- Returns all orders in which the accesses of the scenario's campaign can come, ascending.
abbrev pub orders : Kind → Scenario → List (List (List ℕ))
orders K s = orders_from K (most_in_round s) (opening K s) (suc s.bound)

-- States that the list contains the element.
abbrev pub Has : {A : Type 0} → List A → A → Type 0
Has [] x = ⊥
Has (y ∷ ys) x = (y ≡ x) ⊎ Has ys x

-- States that the elements of the list are all different.
abbrev pub AreDifferent : {A : Type 0} → List A → Type 0
AreDifferent [] = Unit {0}
AreDifferent (x ∷ xs) = (Has xs x → ⊥) × AreDifferent xs

-- States that no round of the order has more than `most` accesses.
abbrev pub AreShort : ℕ → List (List ℕ) → Type 0
AreShort most [] = Unit {0}
AreShort most (names ∷ order) = (length names ≤ most) × AreShort most order

-- States that the list contains every order whose rounds have at most `most` accesses exactly once, and nothing else.
pub record OrdersAreListed (K : Kind) : Type 0 where
  pub round : (most : ℕ) (w : World) (names : List ℕ) →
      Has (round_orders K most w) names ↔ (IsRoundFrom K w names × (length names ≤ most))
  pub once_in_round : (most : ℕ) (w : World) → AreDifferent (round_orders K most w)
  pub all : (s : Scenario) (most : ℕ) (order : List (List ℕ)) → IsScenario s →
      Has (orders_from K most (opening K s) (suc s.bound)) order ↔ (IsOrder K s order × AreShort most order)
  pub once : (s : Scenario) (most : ℕ) → AreDifferent (orders_from K most (opening K s) (suc s.bound))

-- States that the list of a scenario's orders contains the order of every complete run exactly once, and nothing else.
pub record OrdersAreWhole (K : Kind) : Type 0 where
  pub all : (s : Scenario) (order : List (List ℕ)) → IsScenario s → Has (orders K s) order ↔ IsOrder K s order
  pub once : (s : Scenario) → AreDifferent (orders K s)
