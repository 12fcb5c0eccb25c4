-- Binary numbers of lists: lists of one length with one number are equal, and each number has its list.
use Rattle.std.proofs.Common.{ℕ, suc, ◌+◌, ◌-◌, ◌*◌, ◌/◌, ◌%◌, ◌^◌, ◌<◌, ◌≤◌, ◌≡◌, List, [], ◌∷◌, ◌++◌, length, refl, sym, ap, ◌∙◌, arith}
use Rattle.std.proofs.Math.Nat.{pow-succ'}
use Rattle.std.proofs.lemmas.List.{length_push}
use Rattle.std.proofs.lemmas.Nat.{pow_pos, shr-shr, div_below, mul-add-lt, same_from_place}
use Rattle.label.specs.Oral.{AllBelow}
use Rattle.label.proofs.Pushes.{below-push}
use Rattle.rule_program.specs.Majorities.{binary}

-- Proves that the number of a list has at most as many digits as the list has orders.
pub binary-below : (xs : List ℕ) → AllBelow 2 xs → binary xs < 2 ^ length xs
binary-below [] two = omega arith
binary-below (x ∷ xs) two =
    let rest : binary xs < 2 ^ length xs = binary-below xs two.1 in
    let first : x < 2 = two.0 in
    let all : x * 2 ^ length xs + binary xs < 2 ^ length xs * 2 = mul-add-lt x (2 ^ length xs) (binary xs) 2 first rest in
    omega (arith, pow-succ' 2 (length xs))

-- Proves that lists of 0 and 1 with one length and one number are equal.
pub same_list : (xs ys : List ℕ) → length xs ≡ length ys → AllBelow 2 xs → AllBelow 2 ys → binary xs ≡ binary ys → xs ≡ ys
same_list [] [] long bx by e = refl
same_list [] (y ∷ ys) long bx by e = absurd (omega arith)
same_list (x ∷ xs) [] long bx by e = absurd (omega arith)
same_list (x ∷ xs) (y ∷ ys) long bx by e =
    let tails : length xs ≡ length ys = omega arith in
    let powers : 2 ^ length xs ≡ 2 ^ length ys = ap (λ (n : ℕ). 2 ^ n) tails in
    let below : binary ys < 2 ^ length xs = (let b = binary-below ys by.1 in omega (arith, b)) in
    let aligned : x * 2 ^ length xs + binary xs ≡ y * 2 ^ length xs + binary ys = e ∙ ap (λ (p : ℕ). y * p + binary ys) (sym powers) in
    let parts = same_from_place x (binary xs) y (binary ys) (2 ^ length xs) (binary-below xs bx.1) below aligned in
    ap (λ (z : ℕ). z ∷ xs) parts.0 ∙ ap (λ (zs : List ℕ). y ∷ zs) (same_list xs ys tails bx.1 by.1 parts.1)

-- Proves that a further digit doubles the number.
binary-push : (xs : List ℕ) (d : ℕ) → binary (xs ++ d ∷ []) ≡ 2 * binary xs + d
binary-push [] d = omega arith
binary-push (x ∷ xs) d =
    let ih : binary (xs ++ d ∷ []) ≡ 2 * binary xs + d = binary-push xs d in
    let long : length (xs ++ d ∷ []) ≡ suc (length xs) = (let l = length_push xs d in omega arith) in
    let power : 2 ^ length (xs ++ d ∷ []) ≡ 2 * 2 ^ length xs = ap (λ (n : ℕ). 2 ^ n) long ∙ pow-succ' 2 (length xs) in
    let first : x * 2 ^ length (xs ++ d ∷ []) ≡ x * (2 * 2 ^ length xs) = ap (λ (p : ℕ). x * p) power in
    omega (arith, ih, first)

-- The list of the first `place` digits of a number with `size` digits.
pub record HasDigits (number size place : ℕ) (xs : List ℕ) : Type 0 where
  pub long : length xs ≡ place
  pub two : AllBelow 2 xs
  pub value : binary xs ≡ number / 2 ^ (size - place)

pub no_digit : (number size : ℕ) → number < 2 ^ size → HasDigits number size 0 []
no_digit number size few = record {
  long = refl;
  two = tt;
  value =
      let all : size - 0 ≡ size = omega arith in
      let none : number / 2 ^ size < 1 = div_below number (2 ^ size) 1 (pow_pos size) (omega arith) in
      let same : number / 2 ^ (size - 0) ≡ number / 2 ^ size = ap (λ (k : ℕ). number / 2 ^ k) all in
      omega arith;
}

pub digit_more : (number size place d : ℕ) (xs : List ℕ) → HasDigits number size place xs → place < size → d ≡ number / 2 ^ (size - 1 - place) % 2 → HasDigits number size (place + 1) (xs ++ d ∷ [])
digit_more number size place d xs has inside is =
    let k : ℕ = size - 1 - place in
    let small : d < 2 = omega arith in
    let higher : number / 2 ^ k / 2 ≡ number / 2 ^ (k + 1) = shr-shr number k 1 in
    let here : number / 2 ^ (size - place) ≡ number / 2 ^ (k + 1) = (let e : size - place ≡ k + 1 = omega arith in ap (λ (j : ℕ). number / 2 ^ j) e) in
    let next : number / 2 ^ (size - (place + 1)) ≡ number / 2 ^ k = (let e : size - (place + 1) ≡ k = omega arith in ap (λ (j : ℕ). number / 2 ^ j) e) in
    let value = has.value in
    record {
      long = let l = length_push xs d in let long = has.long in omega arith;
      two = below-push 2 xs d has.two small;
      value = omega (arith, binary-push xs d, higher, here, next, value);
    }

pub all_digits : (number size place : ℕ) (xs : List ℕ) → HasDigits number size place xs → size ≤ place → place ≤ size → (length xs ≡ size) × (binary xs ≡ number)
all_digits number size place xs has a b =
    let none : size - place ≡ 0 = omega arith in
    let whole : number / 2 ^ (size - place) ≡ number / 2 ^ 0 = ap (λ (k : ℕ). number / 2 ^ k) none in
    let value = has.value in
    let long = has.long in
    (omega arith, omega (arith, whole, value))
