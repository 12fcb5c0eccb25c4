-- Each message counts once in a list without repetitions.
use Rattle.std.proofs.Common.{ℕ, ◌+◌, ◌≡◌, Bool, true, false, ◌||◌, cond, List, [], ◌∷◌, ◌++◌, refl, sym, ap, ◌∙◌, arith, inl, inr}
use Rattle.std.proofs.lemmas.Bool.{cases_Bool, true≢false}
use Rattle.std.proofs.lemmas.List.Folds.{list_any-append}
use Rattle.std.proofs.lemmas.List.Sums.{sum_by-append, sum_by-cons}
use Rattle.std.specs.List.{list_any}
use Rattle.std.specs.Prelude.{count_by, filter, if◌then◌else◌}
use Rattle.show_diagram.specs.declared.told_order.Telling.{Telling}
use Rattle.show_diagram.specs.Lists.{is_same}
use Rattle.show_diagram.specs.Order.{firsts}
use Rattle.show_diagram.proofs.Sameness.{same_is}

count_append : (f : Telling → Bool) (xs ys : List Telling) → count_by f (xs ++ ys) ≡ count_by f xs + count_by f ys
count_append f xs ys = sum_by-append (λ x. cond {A = ℕ} (f x) 1 0) xs ys

-- Proves that a test that only elements of a round pass counts the same in the round as in the whole list.
pub count_within_told : (f g : Telling → Bool) (xs : List Telling) → ((x : Telling) → f x ≡ true → g x ≡ true) → count_by f xs ≡ count_by f (filter g xs)
count_within_told f g [] h = refl
count_within_told f g (x ∷ xs) h =
    let whole = sum_by-cons (λ y. cond {A = ℕ} (f y) 1 0) x xs in
    let rest = count_within_told f g xs h in
    elim (cases_Bool (g x)) [
      | inl there ↦
          let kept : count_by f (filter g (x ∷ xs)) ≡ count_by f (x ∷ filter g xs) = ap (λ b. count_by f (if b then x ∷ filter g xs else filter g xs)) there in
          let first = sum_by-cons (λ y. cond {A = ℕ} (f y) 1 0) x (filter g xs) in
          omega arith
      | inr not_there ↦
          let kept : count_by f (filter g (x ∷ xs)) ≡ count_by f (filter g xs) = ap (λ b. count_by f (if b then x ∷ filter g xs else filter g xs)) not_there in
          let none : cond {A = ℕ} (f x) 1 0 ≡ 0 = elim (cases_Bool (f x)) [
            | inl passes ↦ absurd (true≢false (sym (h x passes) ∙ not_there))
            | inr fails ↦ ap (λ b. cond {A = ℕ} b 1 0) fails
          ] in
          omega arith
    ]

-- ---- each message once

-- Returns how often an element occurs among the first occurrences: once if it is in the list but not before it.
abbrev new_if : Bool → Bool → ℕ
new_if true same = 0
new_if false true = 1
new_if false false = 0

count_kept : (f : Telling → Bool) (b : Bool) (x : Telling) → count_by f (if b then [] else x ∷ []) ≡ new_if b (f x)
count_kept f true x = refl
count_kept f false x = one (f x) refl
  where
    one : (c : Bool) → f x ≡ c → count_by f (x ∷ []) ≡ new_if false c
    one true e = let k : cond {A = ℕ} (f x) 1 0 ≡ 1 = ap (λ b. cond {A = ℕ} b 1 0) e in omega arith
    one false e = let k : cond {A = ℕ} (f x) 1 0 ≡ 0 = ap (λ b. cond {A = ℕ} b 1 0) e in omega arith

once_table : (a b s r : Bool) → (s ≡ true → a ≡ b) → new_if a s + new_if (b || (s || false)) r ≡ new_if b (s || r)
once_table true true true r h = refl
once_table false false true r h = refl
once_table true false true r h = absurd (true≢false (h refl))
once_table false true true r h = absurd (true≢false (sym (h refl)))
once_table true true false r h = refl
once_table false true false r h = refl
once_table true false false true h = refl
once_table true false false false h = refl
once_table false false false true h = refl
once_table false false false false h = refl

none_new : (b : Bool) → 0 ≡ new_if b false
none_new true = refl
none_new false = refl

-- Proves that the first occurrences contain each element of the list exactly once, unless it occurred before.
once_from : (q : Telling) (before xs : List Telling) → count_by (is_same q) (firsts is_same before xs) ≡ new_if (list_any (is_same q) before) (list_any (is_same q) xs)
unfolding firsts
once_from q before [] = none_new (list_any (is_same q) before)
once_from q before (x ∷ xs) =
    let rest : List Telling = firsts is_same (before ++ x ∷ []) xs in
    let known : Bool = list_any (is_same x) before in
    count_append (is_same q) (if known then [] else x ∷ []) rest
    ∙ (ap (λ (k : ℕ). k + count_by (is_same q) rest) (count_kept (is_same q) known x)
    ∙ (ap (λ (k : ℕ). new_if known (is_same q x) + k) (once_from q (before ++ x ∷ []) xs ∙ ap (λ b. new_if b (list_any (is_same q) xs)) (list_any-append (is_same q) before (x ∷ [])))
    ∙ once_table known (list_any (is_same q) before) (is_same q x) (list_any (is_same q) xs)
    (λ same. ap (λ (y : Telling). list_any (is_same y) before) (sym (same_is q x same)))))

pub told_once : (q : Telling) (xs : List Telling) → count_by (is_same q) (firsts is_same [] xs) ≡ (if list_any (is_same q) xs then 1 else 0)
told_once q xs = once_from q [] xs ∙ one (list_any (is_same q) xs)
  where
    one : (b : Bool) → new_if false b ≡ (if b then 1 else 0)
    one true = refl
    one false = refl
