-- Lists of generals who can make their accesses in this order, and how the round goes on after them (own).
use Rattle.std.specs.Prelude.{ℕ, zero, suc, ◌≡◌, ◌≤◌, true, false, List, [], ◌∷◌, ◌++◌, slice_get}
use Rattle.world.specs.Kind.{Kind, World}
use Rattle.world.specs.KindLists.{first_line, later_lines}
use Rattle.campaign_orders.specs.Orders.{will_ask, past, behind}
use Rattle.campaign_orders.specs.Listing.{Has}

-- States that these generals can make their next accesses in this order.
abbrev pub IsWalk : Kind → World → List ℕ → Type 0
IsWalk K w [] = Unit {0}
IsWalk K w (g ∷ names) = (will_ask (slice_get w.parts g) ≡ true) × IsWalk K (past K w g) names

-- States that in each round the generals listed for it can make their accesses in this order.
abbrev pub AreWalks : Kind → World → List (List ℕ) → Type 0
AreWalks K w [] = Unit {0}
AreWalks K w (names ∷ order) = IsWalk K w names × AreWalks K (behind K w names) order

-- States that the general at this index, counted from 0, is the first who makes no further access when it is his turn.
abbrev pub IsStuckAt : Kind → World → List ℕ → ℕ → Type 0
IsStuckAt K w [] place = ⊥
IsStuckAt K w (g ∷ names) zero = will_ask (slice_get w.parts g) ≡ false
IsStuckAt K w (g ∷ names) (suc place) = (will_ask (slice_get w.parts g) ≡ true) × IsStuckAt K (past K w g) names place

-- States that the general at this index of this round's list is the first who makes no further access when it is his
-- turn. Round and index are counted from 0.
abbrev pub IsStuckIn : Kind → World → List (List ℕ) → ℕ → ℕ → Type 0
IsStuckIn K w [] round place = ⊥
IsStuckIn K w (names ∷ order) zero place = IsStuckAt K w names place
IsStuckIn K w (names ∷ order) (suc round) place = IsWalk K w names × IsStuckIn K (behind K w names) order round place

-- States that the list is ascending: no element is less than an earlier one.
abbrev pub IsAscending : List ℕ → Type 0
IsAscending [] = Unit {0}
IsAscending (x ∷ xs) = ((y : ℕ) → Has xs y → x ≤ y) × IsAscending xs

-- States that `row` begins with `names`, followed by other generals in ascending order.
abbrev pub Continues : List ℕ → List ℕ → Type 0
Continues names row = (others : List ℕ) × (row ≡ names ++ others) × IsAscending others

-- States that in each round the row begins with the names listed for it, followed by other generals in ascending order.
abbrev pub IsCompletion : List (List ℕ) → List (List ℕ) → Type 0
IsCompletion names [] = Unit {0}
IsCompletion names (row ∷ rows) = Continues (first_line names) row × IsCompletion (later_lines names) rows
