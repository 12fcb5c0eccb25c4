-- The laws of OM(m) that functions of this crate prove. They are the agreement theorem (TOPLAS 1982, Theorem 1), for
-- any rule, campaign and messages, and the meaning of the lists in an explanation (algorithm OM(m)).
use Rattle.std.specs.Prelude.{ℕ, suc, ◌*◌, ◌<◌, ◌≤◌, ◌≡◌, ◌==◌, ◌↔◌, Bool, false, List, [], ◌∷◌, length, find, count_by, None, Some}
use Rattle.combine.specs.Rule.{combined_by, IsMajorityRule, is_most}
use Rattle.label.specs.Oral.{Messages, om, IsFaithful, IsBound, Agree}
use Rattle.book.specs.Decisions.{decision_of}
use Rattle.book.specs.Explained.{decided, list_of}
use Rattle.book.specs.Table.{MessageTable}

-- States the agreement theorem. It assumes that the rule returns the order of a majority, and that the number of
-- generals is more than three times the bound. At most `m` of them are traitors, and each loyal general sends on the
-- order that he took. Then the loyal lieutenants decide alike and, if the commander is loyal, on his order, whatever
-- the traitors send.
abbrev pub AgreementHolds : Type 0
AgreementHolds = (f : List ℕ → ℕ) → IsMajorityRule f →
    (n c m order : ℕ) (traitor : ℕ → Bool) (M : Messages) → c < n → IsBound n m traitor →
    ((g : ℕ) → g < n → traitor g ≡ false → IsFaithful n c m order M g) →
    Agree n c order traitor (om f n M m (c ∷ []))

-- States what the lists in an explanation mean. What results from a list is the decision about its label, and for the
-- commander's label the lieutenant's decision. A majority is reported exactly if one order is in more than half of the
-- list.
pub record ListsMean : Type 0 where
  pub decides : (t : MessageTable) (k : ℕ) (w : List ℕ) (p : ℕ) →
      combined_by t.rule (list_of t k w p) ≡ decided t (suc k) w p
  pub whole : (t : MessageTable) (p : ℕ) → decided t t.bound (t.commander ∷ []) p ≡ decision_of t p
  pub majority : (orders : List ℕ) (v : ℕ) →
      (find (is_most orders) orders ≡ Some v) ↔ (length orders < 2 * count_by (λ x. x == v) orders)
  pub none : (orders : List ℕ) →
      (find (is_most orders) orders ≡ None) ↔ ((v : ℕ) → 2 * count_by (λ x. x == v) orders ≤ length orders)
