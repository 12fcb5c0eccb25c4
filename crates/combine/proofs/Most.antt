-- The order that makes up more than half of a list, as the vote finds it.
use Rattle.std.proofs.Common.{ℕ, ◌*◌, ◌<◌, ◌≤◌, ◌≡◌, true, false, List, length, refl, sym, ap, ◌∙◌, arith, Option, Some, None}
use Rattle.std.specs.Prelude.{count_by, find, unwrap_or, ◌==◌}
use Rattle.std.proofs.lemmas.Bool.{ltb-true, true≢false}
use Rattle.combine.specs.Outcome.{agreed_or, outcome_order}
use Rattle.combine.specs.Rule.{is_most, majority, NoMajorityIsRetreat}
use Rattle.combine.specs.Laws.{majority_is_rule, most_found}
use Rattle.combine.proofs.Found.{none_found}

-- Proves that the outcome has the order that was found, or the other one.
pub agreed_order : (other : ℕ) (o : Option ℕ) → outcome_order (agreed_or other o) ≡ unwrap_or o other
agreed_order other None = refl
agreed_order other (Some v) = refl

-- Proves that either the candidate of the vote makes up more than half of the list, or no order does.
pub voted : (xs : List ℕ) (candidate : ℕ) → is_most xs candidate ≡ true → Some candidate ≡ find (is_most xs) xs
voted xs candidate it = sym (most_found xs candidate (ltb-true (length xs) (2 * count_by (λ x. x == candidate) xs) it))

pub unvoted : (xs : List ℕ) (candidate : ℕ) → ((v : ℕ) → length xs < 2 * count_by (λ x. x == v) xs → candidate ≡ v) →
    is_most xs candidate ≡ false → None ≡ find (is_most xs) xs
unvoted xs candidate only fails =
    sym (none_found (is_most xs) xs (λ v it. refuted v it (only v (ltb-true (length xs) (2 * count_by (λ x. x == v) xs) it))))
  where
    refuted : (v : ℕ) → is_most xs v ≡ true → candidate ≡ v → ⊥
    refuted v it e = true≢false (sym it ∙ (ap (is_most xs) (sym e) ∙ fails))

pub most_is_majority : (xs : List ℕ) (v : ℕ) → is_most xs v ≡ true → v ≡ majority xs
most_is_majority xs v it = sym (majority_is_rule xs v (ltb-true (length xs) (2 * count_by (λ x. x == v) xs) it))

pub retreat : NoMajorityIsRetreat
unfolding majority
retreat xs none =
    rw (none_found (is_most xs) xs (λ v it. (
    let most : length xs < 2 * count_by (λ x. x == v) xs = ltb-true (length xs) (2 * count_by (λ x. x == v) xs) it in
    let few : 2 * count_by (λ x. x == v) xs ≤ length xs = none v in
    omega arith))) refl
