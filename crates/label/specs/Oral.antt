-- Oral messages, as functions of a label and a receiver (TOPLAS 1982, section 3; Lynch, Distributed Algorithms, chapter
-- 6).
use Rattle.std.specs.Prelude.{ℕ, zero, suc, ◌*◌, ◌<◌, ◌≤◌, ◌≡◌, ◌≢◌, ◌==◌, Bool, true, false, cond, List, [], ◌∷◌, ◌++◌, map, length, count_by, Option, None, Some}
use Rattle.label.specs.Labels.{on, is_distinct, generals, others}

-- States that every number in the list is below n.
abbrev pub AllBelow : ℕ → List ℕ → Type 0
AllBelow n [] = Unit {0}
AllBelow n (x ∷ xs) = (x < n) × AllBelow n xs

-- States that the list begins with the commander.
abbrev pub BeginsWith : ℕ → List ℕ → Type 0
BeginsWith c [] = ⊥
BeginsWith c (x ∷ xs) = x ≡ c

-- States that w is a label: it begins with the commander, and its generals are all different and below n.
pub record IsLabel (n c : ℕ) (w : List ℕ) : Type 0 where
  pub first : BeginsWith c w
  pub below : AllBelow n w
  pub distinct : is_distinct w ≡ true

-- Returns the order that a received message counts as. A missing message counts as RETREAT, 0.
abbrev pub order_of : Option ℕ → ℕ
order_of None = 0
order_of (Some v) = v

-- The messages of a campaign: for a label and a receiver, the order that the last general of the label sent to the
-- receiver about the rest of the label, or nothing.
abbrev pub Messages : Type 0
Messages = List ℕ → ℕ → Option ℕ

-- Returns the order that general p takes from the message for the label w. It is RETREAT, 0, if the message is
-- missing.
abbrev pub taken : Messages → List ℕ → ℕ → ℕ
taken M w p = order_of (M w p)

-- Returns the order that general g took for a label. For the empty label, which only the commander relays, it is the
-- order that he was given.
abbrev pub heard : Messages → ℕ → List ℕ → ℕ → ℕ
heard M order [] g = order
heard M order (x ∷ xs) g = taken M (x ∷ xs) g

-- Returns what p decides about the label w by OM(k), where up to k further generals can extend the label.
unfoldable pub om : (List ℕ → ℕ) → ℕ → Messages → ℕ → List ℕ → ℕ → ℕ
om f n M zero w p = taken M w p
om f n M (suc k) w p = f (map (λ j. cond (j == p) (taken M w p) (om f n M k (w ++ j ∷ []) p)) (others n w))

-- States that general g is faithful in the rounds up to m + 1: he sends each receiver the order that he took.
abbrev pub IsFaithful : ℕ → ℕ → ℕ → ℕ → Messages → ℕ → Type 0
IsFaithful n c m order M g =
    (u : List ℕ) (p : ℕ) → IsLabel n c (u ++ g ∷ []) → length u ≤ m → p < n → on (u ++ g ∷ []) p ≡ false
    → M (u ++ g ∷ []) p ≡ Some (heard M order u g)

-- States that general p is a loyal lieutenant.
pub record IsLoyalLieutenant (n c : ℕ) (traitor : ℕ → Bool) (p : ℕ) : Type 0 where
  pub general : p < n
  pub lieutenant : p ≢ c
  pub loyal : traitor p ≡ false

-- States that all loyal lieutenants decide alike (IC1), and obey the order of a loyal commander (IC2).
pub record Agree (n c order : ℕ) (traitor : ℕ → Bool) (decision : ℕ → ℕ) : Type 0 where
  pub alike : (p q : ℕ) → IsLoyalLieutenant n c traitor p → IsLoyalLieutenant n c traitor q → decision p ≡ decision q
  pub obeyed : traitor c ≡ false → (p : ℕ) → IsLoyalLieutenant n c traitor p → decision p ≡ order

-- States that the bound holds: there are more than 3m generals, and at most m of them are traitors.
pub record IsBound (n m : ℕ) (traitor : ℕ → Bool) : Type 0 where
  pub enough : 3 * m < n
  pub few : count_by traitor (generals n) ≤ m
