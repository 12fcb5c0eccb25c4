-- Proves that a decimal number that is printed is read back, by each function that reads numbers.
use Rattle.std.proofs.Common.{◌≡◌, ℕ, ◌+◌, ◌/◌, ◌%◌, ◌^◌, ◌<◌, ◌≤◌, true, false, List, [], ◌∷◌, ◌++◌, Some, None, length, get_or, refl, ap, arith, inl, inr}
use Rattle.std.specs.Prelude.{decimal, ◌==◌, if◌then◌else◌}
use Rattle.std.specs.List.{list_all}
use Rattle.std.proofs.lemmas.Fmt.{decimal_by_steps, decimal_digit, decimal_nonempty, first_decimal}
use Rattle.std.proofs.lemmas.Bool.{cases_lt, and_parts, and_right}
use Rattle.std.proofs.lemmas.Bool.Decides.{nat_tests}
use Rattle.text.specs.Stop.{is_within}
use Rattle.text.specs.Number.{digits_on, decimal_of, is_hex, magnitude_of}
use Rattle.text.proofs.BytesLemmas.{all-append}
use Rattle.text.proofs.DigitLemmas.{decimal_again}

-- The text contains only decimal digits.
abbrev pub AreDigits : List ℕ → Type 0
AreDigits ds = list_all (is_within 48 57) ds ≡ true

digit_one : (d : ℕ) → d < 10 → AreDigits ((48 + d) ∷ [])
digit_one d lt = grind arith

Numeral : ℕ → List ℕ → Type 0
Numeral n ds = AreDigits ds

first_digit : (n : ℕ) → n < 10 → Numeral n ((48 + n) ∷ [])
unfolding Numeral
first_digit n lt = digit_one n lt

more_digits : (n : ℕ) (ds : List ℕ) → 10 ≤ n → Numeral (n / 10) ds → Numeral n (ds ++ ((48 + n % 10) ∷ []))
unfolding Numeral
more_digits n ds le h = all-append (is_within 48 57) ds ((48 + n % 10) ∷ []) h (digit_one (n % 10) (omega arith))

pub digits-decimal : (n : ℕ) → n < 2 ^ 64 → AreDigits (decimal n)
unfolding Numeral
digits-decimal n lt = decimal_by_steps Numeral first_digit more_digits n lt

-- A digit is not a byte greater than 57.
pub digit_is_not : (c other : ℕ) → is_within 48 57 c ≡ true → 57 < other → c == other ≡ false
digit_is_not c other h lt = grind (arith, nat_tests)

-- A text of digits does not begin with `0x`.
pub is_hex-digits : (ds : List ℕ) → AreDigits ds → is_hex ds ≡ false
is_hex-digits [] h = refl
is_hex-digits (c ∷ []) h = and_right (c == 48) false refl
is_hex-digits (c ∷ d ∷ cs) h =
    let second : is_within 48 57 d ≡ true = (and_parts (is_within 48 57 d) _ (and_parts (is_within 48 57 c) _ h).1).0 in
    and_right (c == 48) (d == 120) (digit_is_not d 120 second (omega arith))

some_digits : (ds : List ℕ) (n : ℕ) → 0 < length ds → digits_on 10 0 ds ≡ Some n → (if length ds == 0 then None else digits_on 10 0 ds) ≡ Some n
some_digits ds n some h =
    let e : (length ds == 0) ≡ false = grind (arith, nat_tests) in
    rw e h

pub magnitude_of-decimal : (n : ℕ) → n < 2 ^ 64 → magnitude_of (decimal n) ≡ Some n
unfolding magnitude_of
magnitude_of-decimal n lt = rw (is_hex-digits (decimal n) (digits-decimal n lt)) (some_digits (decimal n) n (decimal_nonempty n lt) (decimal_again n lt))

-- A text of digits without a leading zero is read as a decimal number.
plain_decimal : (ds : List ℕ) (n : ℕ) → 0 < length ds → (2 ≤ length ds → 48 < get_or ds 0 0) → digits_on 10 0 ds ≡ Some n → decimal_of ds ≡ Some n
unfolding decimal_of
plain_decimal [] n some above h = absurd (omega (arith, some))
plain_decimal (c ∷ []) n some above h = h
plain_decimal (c ∷ d ∷ cs) n some above h =
    let first : 48 < c = above (omega arith) in
    let e : (c == 48) ≡ false = grind (arith, nat_tests) in
    rw e h

no_zero_first : (n : ℕ) → n < 2 ^ 64 → 2 ≤ length (decimal n) → 48 < get_or (decimal n) 0 0
no_zero_first n lt two =
    elim (cases_lt n 10) [
      | inl low ↦ let one : length (decimal n) ≡ 1 = ap length (decimal_digit n low) in absurd (omega arith)
      | inr high ↦ first_decimal n (omega arith) lt
    ]

pub decimal_of-decimal : (n : ℕ) → n < 2 ^ 64 → decimal_of (decimal n) ≡ Some n
decimal_of-decimal n lt = plain_decimal (decimal n) n (decimal_nonempty n lt) (no_zero_first n lt) (decimal_again n lt)
