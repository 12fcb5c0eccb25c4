-- Why the orders 0 and 1 are enough to break a rule, although traitors may send any order or none. Each statement is the
-- contract of a function of this crate.
use Rattle.std.specs.Prelude.{ℕ, ◌<◌, ◌≤◌, ◌≡◌, ◌≢◌, Bool, false, List, [], ◌∷◌, map}
use Rattle.combine.specs.declared.campaign_rule.Rule.{Rule}
use Rattle.combine.specs.Rule.{combined_by}
use Rattle.label.specs.Oral.{AllBelow, Messages, taken, om, IsFaithful, Agree}
use Rattle.lies.specs.Break.{attacks_in}

-- A map of orders to 0 and 1 that keeps RETREAT, and keeps the orders a and b apart. The rule f commutes with it: it
-- makes no difference whether the map is applied to the orders of a list or to the result.
pub record Projection (f : List ℕ → ℕ) (a b : ℕ) : Type 0 where
  pub image : ℕ → ℕ
  pub retreat : image 0 ≡ 0
  pub two : (x : ℕ) → image x < 2
  pub apart : image a ≢ image b
  pub commutes : (xs : List ℕ) → f (map image xs) ≡ image (f xs)

-- States that each rule of campaigns has such a map for any two orders, and returns 0 or 1 for lists of 0 and 1.
pub record RulesProject : Type 0 where
  pub projected : (rule : Rule) (a b : ℕ) → a ≢ b → Projection (combined_by rule) a b
  pub small : (rule : Rule) (xs : List ℕ) → AllBelow 2 xs → combined_by rule xs < 2

-- Messages of a campaign in which the traitors send at most `most` orders other than RETREAT to loyal generals, and all
-- others are faithful.
pub record Within (n m c most order : ℕ) (traitor : ℕ → Bool) (M : Messages) : Type 0 where
  pub few : attacks_in n m c traitor M ≤ most
  pub faithful : (g : ℕ) → g < n → traitor g ≡ false → IsFaithful n c m order M g

-- States that the loyal lieutenants always agree by a rule if they agree whenever the commander orders 0 or 1 and all
-- generals take 0 or 1. This holds for the messages of any traitors, and also for those with at most `most` orders other
-- than RETREAT.
abbrev pub TwoOrdersSuffice : Type 0
TwoOrdersSuffice = (rule : Rule) (n m c most : ℕ) (traitor : ℕ → Bool) → c < n →
    ((order : ℕ) (M : Messages) → order < 2 → ((w : List ℕ) (p : ℕ) → taken M w p < 2) →
    Within n m c most order traitor M → Agree n c order traitor (om (combined_by rule) n M m (c ∷ []))) →
    (order : ℕ) (M : Messages) → Within n m c most order traitor M →
    Agree n c order traitor (om (combined_by rule) n M m (c ∷ []))
