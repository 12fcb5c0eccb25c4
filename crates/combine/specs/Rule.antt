-- The decision rules, which combine a list of orders into one order (TOPLAS 1982, section 3). Each table below has a
-- line for each rule.
use Rattle.std.specs.Prelude.{ℕ, ◌*◌, ◌/◌, ◌<◌, ◌≤◌, ◌≡◌, ◌==◌, nat_lt, nat_le, Bool, ◌&&◌, List, [], ◌∷◌, length, codes, find, count_by, unwrap_or, slice_index}
use Rattle.std.specs.List.Sorted.{IsPermutation, IsNonDecreasing}
use Rattle.combine.specs.Outcome.{agreed_or, outcome_order}
use Rattle.combine.specs.declared.campaign_rule.Rule.{Rule}
use Rattle.combine.specs.declared.campaign_rule.Rule.TheVariants.{Majority, Median}
use Rattle.combine.specs.declared.outcome.Outcome.{Outcome}
use Rattle.combine.specs.declared.outcome.Outcome.TheVariants.{Middle}

-- Returns whether the order v makes up more than half of the list.
abbrev pub is_most : List ℕ → ℕ → Bool
is_most xs v = nat_lt (length xs) (2 * count_by (λ x. x == v) xs)

-- Returns the order that makes up more than half of the list, or 0 if there is none.
unfoldable pub majority : List ℕ → ℕ
majority xs = unwrap_or (find (is_most xs) xs) 0

-- Returns whether the order v is in the middle of the sorted list: at most half of the elements are less, and more
-- than half are at most v.
unfoldable pub is_middle : List ℕ → ℕ → Bool
is_middle xs v =
    nat_le (count_by (λ x. nat_lt x v) xs) (length xs / 2) && nat_lt (length xs / 2) (count_by (λ x. nat_le x v) xs)

-- Returns the median of a list: the order in the middle of the sorted list, or 0 if the list is empty.
unfoldable pub median : List ℕ → ℕ
median xs = unwrap_or (find (is_middle xs) xs) 0

-- All rules, in the order in which messages and help list their names.
abbrev pub every_rule : List Rule
every_rule = Majority ∷ Median ∷ []

-- Returns the name of a rule.
abbrev pub rule_name : Rule → List ℕ
rule_name Majority = codes "majority"
rule_name Median = codes "median"

-- Returns the order that results if a rule combines a list of orders.
abbrev pub combined_by : Rule → List ℕ → ℕ
combined_by Majority = majority
combined_by Median = median

-- Returns the outcome if a rule combines a list of orders: the order, and how the rule found it.
abbrev pub outcome_of : Rule → List ℕ → Outcome
outcome_of Majority orders = agreed_or 0 (find (is_most orders) orders)
outcome_of Median orders = Middle (median orders)

-- States that a function returns the order that makes up more than half of a list, if there is one.
abbrev pub IsMajorityRule : (List ℕ → ℕ) → Type 0
IsMajorityRule f = (xs : List ℕ) (v : ℕ) → length xs < 2 * count_by (λ x. x == v) xs → f xs ≡ v

-- States that the majority is RETREAT, 0, if no order makes up more than half of the list.
abbrev pub NoMajorityIsRetreat : Type 0
NoMajorityIsRetreat = (xs : List ℕ) → ((v : ℕ) → 2 * count_by (λ x. x == v) xs ≤ length xs) → majority xs ≡ 0

-- States that the median of a list of n orders is the order with index n / 2 in the sorted list. Indices begin at 0,
-- and the list is not empty.
abbrev pub MedianIsMiddle : Type 0
MedianIsMiddle = (xs ys : List ℕ) → IsPermutation xs ys → IsNonDecreasing ys → 0 < length xs →
    median xs ≡ slice_index ys (length xs / 2)

-- States that the order in a rule's outcome is the order to which the rule combines the list.
abbrev pub OutcomesCombine : Type 0
OutcomesCombine = (rule : Rule) (orders : List ℕ) → outcome_order (outcome_of rule orders) ≡ combined_by rule orders
