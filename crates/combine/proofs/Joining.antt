-- A list of received orders with the general's own order inserted.
use Rattle.std.proofs.Common.{ℕ, ◌+◌, ◌≤◌, ◌≡◌, Bool, cond, List, [], ◌∷◌, ◌++◌, length, take, drop, take-append-drop, length-append, refl, sym, ap, ◌∙◌, arith}
use Rattle.std.specs.Prelude.{insert, count_by, ◌==◌}
use Rattle.std.proofs.lemmas.List.{take_all}
use Rattle.std.proofs.lemmas.List.Sums.{sum_by-cons, sum_by-append}
use Rattle.combine.specs.Rule.{is_most}

-- Proves that both parts with the own order between them are the list with the order inserted.
pub joined : (cs ys : List ℕ) (place own i : ℕ) (orders : List ℕ) → orders ≡ take place cs ++ own ∷ take i ys → ys ≡ drop place cs → length ys ≤ i → orders ≡ insert cs place own
joined cs ys place own i orders e ey l = rw (e, take_all i ys l, ey) refl

-- Proves that the own order counts the same at any index.
counted : (p : ℕ → Bool) (xs : List ℕ) (place own : ℕ) → count_by p (insert xs place own) ≡ count_by p (own ∷ xs)
counted p xs place own =
    let parts : count_by p xs ≡ count_by p (take place xs) + count_by p (drop place xs) = ap (count_by p) (sym (take-append-drop place xs)) ∙ sum_by-append (λ y. cond (p y) 1 0) (take place xs) (drop place xs) in
    omega (arith, sum_by-append (λ y. cond (p y) 1 0) (take place xs) (own ∷ drop place xs), sum_by-cons (λ y. cond (p y) 1 0) own (drop place xs), sum_by-cons (λ y. cond (p y) 1 0) own xs)

longer : (xs : List ℕ) (place own : ℕ) → length (insert xs place own) ≡ length (own ∷ xs)
longer xs place own =
    let parts : length xs ≡ length (take place xs) + length (drop place xs) = ap length (sym (take-append-drop place xs)) ∙ length-append (take place xs) (drop place xs) in
    omega (arith, length-append (take place xs) (own ∷ drop place xs))

pub most_anywhere : (xs : List ℕ) (place own v : ℕ) → is_most (insert xs place own) v ≡ is_most (own ∷ xs) v
most_anywhere xs place own v = rw (counted (λ x. x == v) xs place own, longer xs place own) refl
