-- Numbers that are printed are read again.
use Rattle.std.proofs.Common.{◌≡◌, ℕ, suc, ◌^◌, ◌<◌, ◌≤◌, true, false, List, [], ◌∷◌, Some, get_or, refl, arith}
use Rattle.std.specs.Prelude.{ℤ, pos, negsuc, decimal, FitsSigned, ◌==◌, nat_lt, nat_le}
use Rattle.std.specs.Int.{w16, w32}
use Rattle.std.specs.Fmt.{signed_decimal}
use Rattle.std.proofs.lemmas.Bool.Decides.{nat_tests}
use Rattle.std.proofs.lemmas.Int.{ints}
use Rattle.std.proofs.lemmas.Bool.{and_parts}
use Rattle.text.specs.Stop.{is_within}
use Rattle.text.specs.Number.{magnitude_of}
use Rattle.text.proofs.DecimalLemmas.{AreDigits, digits-decimal, magnitude_of-decimal}
use Rattle.asm.specs.declared.number.Number.{Number}
use Rattle.asm.specs.Number.{number_of, signed_within, bits_within}
use Rattle.asm.specs.Operand.{signed_of}
use Rattle.asm.specs.Printing.{signed_text}

-- A number as it is printed.
abbrev pub number_for : ℤ → Number
number_for (pos n) = record { negative = false; magnitude = n }
number_for (negsuc n) = record { negative = true; magnitude = suc n }

-- Digits do not begin with a minus.
no_minus : (ds : List ℕ) → AreDigits ds → (get_or ds 0 0 == 45) ≡ false
no_minus [] h = refl
no_minus (c ∷ cs) h =
    let first : is_within 48 57 c ≡ true = (and_parts (is_within 48 57 c) _ h).0 in
    grind (arith, nat_tests)

number_of-digits : (ds : List ℕ) (n : ℕ) → AreDigits ds → magnitude_of ds ≡ Some n → number_of ds ≡ Some (record { negative = false; magnitude = n })
unfolding number_of
number_of-digits ds n digits h = rw (no_minus ds digits, h) refl

number_of-minus : (ds : List ℕ) (n : ℕ) → magnitude_of ds ≡ Some n → number_of (45 ∷ ds) ≡ Some (record { negative = true; magnitude = n })
unfolding number_of
number_of-minus ds n h = rw h refl

-- The magnitude of a printed number has fewer than 64 bits.
abbrev pub IsSmall : ℤ → Type 0
IsSmall (pos n) = n < 2 ^ 64
IsSmall (negsuc n) = suc n < 2 ^ 64

pub number_of-decimal : (n : ℕ) → n < 2 ^ 64 → number_of (decimal n) ≡ Some (record { negative = false; magnitude = n })
number_of-decimal n lt = number_of-digits (decimal n) n (digits-decimal n lt) (magnitude_of-decimal n lt)

pub number_of-signed : (z : ℤ) → IsSmall z → number_of (signed_decimal z) ≡ Some (number_for z)
number_of-signed (pos n) small = number_of-decimal n small
number_of-signed (negsuc n) small = number_of-minus (decimal (suc n)) (suc n) (magnitude_of-decimal (suc n) small)

pub signed_of-text : (z : ℤ) → IsSmall z → signed_of (signed_text z) ≡ Some (number_for z)
unfolding signed_of
signed_of-text (pos n) small = rw (magnitude_of-decimal n small) refl
signed_of-text (negsuc n) small = rw (magnitude_of-decimal (suc n) small) refl

pub bits_within-number : (n : ℕ) → n < 2 ^ 64 → bits_within (record { negative = false; magnitude = n }) ≡ Some n
unfolding bits_within
bits_within-number n lt = let e : nat_lt n (2 ^ 64) ≡ true = grind (arith, nat_tests) in rw e refl

-- What fits in a signed type, by its magnitude.
abbrev pub FitsIn : ℕ → ℤ → Type 0
FitsIn limit (pos n) = n < limit
FitsIn limit (negsuc n) = suc n ≤ limit

fits_16 : (z : ℤ) → FitsSigned w16 z → FitsIn (2 ^ 15) z
fits_16 (pos n) fits = omega (arith, ints)
fits_16 (negsuc n) fits = omega (arith, ints)

fits_32 : (z : ℤ) → FitsSigned w32 z → FitsIn (2 ^ 31) z
fits_32 (pos n) fits = omega (arith, ints)
fits_32 (negsuc n) fits = omega (arith, ints)

small : (limit : ℕ) (z : ℤ) → limit ≤ 2 ^ 31 → FitsIn limit z → IsSmall z
small limit (pos n) le fits = omega arith
small limit (negsuc n) le fits = omega arith

within : (limit : ℕ) (z : ℤ) → FitsIn limit z → signed_within limit (number_for z) ≡ Some z
unfolding signed_within
within limit (pos n) fits = let e : nat_lt n limit ≡ true = grind (arith, nat_tests) in rw e refl
within limit (negsuc n) fits = let e : nat_le (suc n) limit ≡ true = grind (arith, nat_tests) in rw e refl

pub within_16 : (z : ℤ) → FitsSigned w16 z → signed_within (2 ^ 15) (number_for z) ≡ Some z
within_16 z fits = within (2 ^ 15) z (fits_16 z fits)

pub within_32 : (z : ℤ) → FitsSigned w32 z → signed_within (2 ^ 31) (number_for z) ≡ Some z
within_32 z fits = within (2 ^ 31) z (fits_32 z fits)

pub small_16 : (z : ℤ) → FitsSigned w16 z → IsSmall z
small_16 z fits = small (2 ^ 15) z (omega arith) (fits_16 z fits)

pub small_32 : (z : ℤ) → FitsSigned w32 z → IsSmall z
small_32 z fits = small (2 ^ 31) z (omega arith) (fits_32 z fits)
