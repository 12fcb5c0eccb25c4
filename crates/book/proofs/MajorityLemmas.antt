-- Whether an order is in more than half of a list, and what results from the list.
use Rattle.std.proofs.Common.{ℕ, suc, ◌*◌, ◌<◌, ◌≤◌, ◌≡◌, List, [], ◌∷◌, length, refl, sym, ap, ◌∙◌, arith, inl, inr, Option, Some, None}
use Rattle.std.specs.Prelude.{◌==◌, ◌↔◌, unwrap_or, find, count_by}
use Rattle.std.proofs.lemmas.Bool.{cases_lt, lt-ltb, ltb-true}
use Rattle.combine.specs.Rule.{combined_by, is_most, majority}
use Rattle.combine.specs.Laws.{majority_is_rule}
use Rattle.combine.proofs.Found.{cases_find, find_none, find_passes}
use Rattle.label.specs.Oral.{om}
use Rattle.book.specs.Decisions.{decision_of}
use Rattle.book.specs.Explained.{decided, list_of}
use Rattle.book.specs.Theorem.{ListsMean}
use Rattle.book.specs.Table.{MessageTable}

majority_of : (xs : List ℕ) (u : ℕ) → find (is_most xs) xs ≡ Some u → majority xs ≡ u
unfolding majority
majority_of xs u some = ap (λ (o : Option ℕ). unwrap_or o 0) some

only_most : (xs : List ℕ) (v u : ℕ) → find (is_most xs) xs ≡ Some u → length xs < 2 * count_by (λ x. x == v) xs → u ≡ v
only_most xs v u some most = sym (majority_of xs u some) ∙ majority_is_rule xs v most

-- A majority is in more than half of the list.
majority_means : (xs : List ℕ) (v : ℕ) → (find (is_most xs) xs ≡ Some v) ↔ (length xs < 2 * count_by (λ x. x == v) xs)
majority_means xs v = (
  λ some. ltb-true (length xs) (2 * count_by (λ x. x == v) xs) (find_passes (is_most xs) xs v some),
  λ most. cases_find (is_most xs) xs (find (is_most xs) xs ≡ Some v)
      (λ none. let nowhere : count_by (λ x. x == v) xs ≡ 0 = find_none (is_most xs) xs v none (lt-ltb (length xs) (2 * count_by (λ x. x == v) xs) most) in absurd (omega arith))
      (λ u some. some ∙ ap Some (only_most xs v u some most)),
)

-- There is no majority exactly if no order is.
none_means : (xs : List ℕ) → (find (is_most xs) xs ≡ None) ↔ ((v : ℕ) → 2 * count_by (λ x. x == v) xs ≤ length xs)
none_means xs = (
  λ none v. elim (cases_lt (length xs) (2 * count_by (λ x. x == v) xs)) [
    | inl most ↦ (let nowhere : count_by (λ x. x == v) xs ≡ 0 = find_none (is_most xs) xs v none (lt-ltb (length xs) (2 * count_by (λ x. x == v) xs) most) in absurd (omega arith))
    | inr less ↦ less
  ],
  λ all. cases_find (is_most xs) xs (find (is_most xs) xs ≡ None) (λ none. none)
      (λ u some. let most : length xs < 2 * count_by (λ x. x == u) xs = (majority_means xs u).0 some in let few = all u in absurd (omega arith)),
)

list_decides : (t : MessageTable) (k : ℕ) (w : List ℕ) (p : ℕ) → combined_by t.rule (list_of t k w p) ≡ decided t (suc k) w p
unfolding om
list_decides t k w p = refl

decided_whole : (t : MessageTable) (p : ℕ) → decided t t.bound (t.commander ∷ []) p ≡ decision_of t p
unfolding decision_of
decided_whole t p = refl

-- The law, as specs/Theorem states it.
pub proved_lists_mean : ListsMean
proved_lists_mean = record { decides = list_decides; whole = decided_whole; majority = majority_means; none = none_means }
