-- How often each message occurs.
use Rattle.std.proofs.Common.{ℕ, [], ◌+◌, ◌<◌, ◌≤◌, ◌≡◌, ◌≢◌, Bool, true, false, not, ◌||◌, cond, List, ◌∷◌, ◌++◌, length, drop, get_or, ap, sym, refl, ◌∙◌, arith, inl, inr, None}
use Rattle.std.proofs.lemmas.Bool.{cases_Bool}
use Rattle.std.proofs.lemmas.List.{length-take}
use Rattle.std.proofs.lemmas.List.Folds.{list_any_more}
use Rattle.std.proofs.lemmas.List.Sums.{count_by-le-length, count_by_more_no, count_by_more_yes}
use Rattle.std.specs.List.{list_any}
use Rattle.std.specs.Prelude.{◌==◌, take, count_by, if◌then◌else◌}
use Rattle.show_diagram.proofs.Sameness.{same_back, same_is}
use Rattle.show_diagram.specs.declared.told_order.Telling.{Telling}
use Rattle.show_diagram.specs.Lists.{is_same}

cond_or : (a b : Bool) → cond a true b ≡ (b || a)
cond_or true true = refl
cond_or true false = refl
cond_or false true = refl
cond_or false false = refl

-- The message that is read beyond the end of a list.
abbrev pub nothing_told : Telling
nothing_told = record { round = 0; teller = 0; told = None; differs = false }

-- Proves that one more message is counted.
pub count_more : (q d : Telling) (xs : List Telling) (i old new here more : ℕ) → i < length xs
    → old ≡ count_by (is_same q) (take i xs) → here ≡ count_by (is_same (get_or xs i d)) (take i xs) → more ≡ here + 1
    → (is_same (get_or xs i d) q ≡ true → new ≡ more) → (is_same (get_or xs i d) q ≡ false → new ≡ old)
    → new ≡ count_by (is_same q) (take (i + 1) xs)
count_more q d xs i old new here more within so there one to_more to_old =
    let x : Telling = get_or xs i d in
    elim (cases_Bool (is_same x q)) [
      | inl same ↦
          let all : here ≡ count_by (is_same q) (take i xs) = there ∙ ap (λ (y : Telling). count_by (is_same y) (take i xs)) (same_is x q same) in
          let last = count_by_more_yes (is_same q) xs i d within (same_back q x ∙ same) in
          let to = to_more same in
          omega arith
      | inr other ↦
          let last = count_by_more_no (is_same q) xs i d within (same_back q x ∙ other) in
          let to = to_old other in
          omega arith
    ]

-- Proves that a message occurs at most as often as there are messages.
pub count_small : (x : Telling) (xs : List Telling) (i here : ℕ) → here ≡ count_by (is_same x) (take i xs) → here ≤ length xs
count_small x xs i here is =
    let few = count_by-le-length (is_same x) (take i xs) in
    let short = length-take i xs in
    omega arith

-- Proves that one more message is added to the set of messages seen.
pub seen_more : (q d : Telling) (xs : List Telling) (i : ℕ) (old new : Bool) → i < length xs
    → old ≡ list_any (is_same q) (take i xs) → new ≡ cond (is_same (get_or xs i d) q) true old → new ≡ list_any (is_same q) (take (i + 1) xs)
seen_more q d xs i old new within so e =
    let x : Telling = get_or xs i d in
    e ∙ (ap (λ b. cond b true old) (same_back x q) ∙ (ap (λ b. cond (is_same q x) true b) so ∙ (cond_or (is_same q x) (list_any (is_same q) (take i xs))
    ∙ sym (list_any_more (is_same q) xs i d within))))

-- Proves that a message that was not added had been seen before.
pub was_seen : (seen added : Bool) → added ≡ not seen → added ≡ false → seen ≡ true
was_seen true added e f = refl
was_seen false added e f = absurd cc

pub was_new : (seen added : Bool) → added ≡ not seen → added ≡ true → seen ≡ false
was_new true added e f = absurd cc
was_new false added e f = refl
