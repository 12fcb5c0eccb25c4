-- Bytes, their parts, and their digits.
use Rattle.std.proofs.Common.{◌≡◌, ◌<◌, ◌/◌, ◌%◌, ◌≢◌, ℕ, zero, suc, Bool, true, List, [], ◌∷◌, ◌++◌, length, get_or, slice_index, refl, arith}
use Rattle.std.specs.Prelude.{◌==◌, not}
use Rattle.std.specs.List.{list_all}
use Rattle.std.proofs.lemmas.Bool.{and_from, and_parts}
use Rattle.std.proofs.lemmas.Bool.Decides.{nat_tests}
use Rattle.hex.specs.Hex.{IsBytes, encode_with}

-- Each item is a byte, shown by cases.
abbrev pub AreBytes : List ℕ → Type 0
AreBytes [] = Unit {0}
AreBytes (b ∷ bs) = (b < 256) × AreBytes bs

pub are_bytes : (bs : List ℕ) → ((k : ℕ) → get_or bs k 0 < 256) → AreBytes bs
are_bytes [] each = tt
are_bytes (b ∷ bs) each = (each 0, are_bytes bs (λ k. each (suc k)))

pub is_bytes : (bs : List ℕ) → AreBytes bs → IsBytes bs
is_bytes [] are k = omega arith
is_bytes (b ∷ bs) are zero = are.0
is_bytes (b ∷ bs) are (suc k) = is_bytes bs are.1 k

-- The bytes of two parts.
pub parts_bytes : (a b : List ℕ) → AreBytes (a ++ b) → AreBytes a × AreBytes b
parts_bytes [] b are = (tt, are)
parts_bytes (x ∷ a) b are = let both = parts_bytes a b are.1 in ((are.0, both.0), both.1)

-- An item of a list whose items all pass a test.
pub passes_at : (p : ℕ → Bool) (xs : List ℕ) (k : ℕ) → list_all p xs ≡ true → k < length xs → p (slice_index xs k) ≡ true
passes_at p [] k all within = absurd (omega arith)
passes_at p (x ∷ xs) zero all within = (and_parts (p x) (list_all p xs) all).0
passes_at p (x ∷ xs) (suc k) all within = passes_at p xs k (and_parts (p x) (list_all p xs) all).1 (omega arith)

-- Digits from a table whose digits all pass a test.
pub digits_pass : (p : ℕ → Bool) (table bytes : List ℕ) → list_all p table ≡ true → length table ≡ 16 → AreBytes bytes → list_all p (encode_with table bytes) ≡ true
unfolding encode_with
digits_pass p table [] all sixteen are = refl
digits_pass p table (b ∷ bs) all sixteen are =
    let small : b < 256 = are.0 in
    let high : b / 16 < length table = omega arith in
    let low : b % 16 < length table = omega arith in
    and_from (p (slice_index table (b / 16))) _ (passes_at p table (b / 16) all high)
    (and_from (p (slice_index table (b % 16))) _ (passes_at p table (b % 16) all low) (digits_pass p table bs all sixteen are.1))

-- No byte is this one.
pub lacks_byte : (c : ℕ) (xs : List ℕ) → ((k : ℕ) → k < length xs → get_or xs k 0 ≢ c) → list_all (λ d. not (d == c)) xs ≡ true
lacks_byte c [] other = refl
lacks_byte c (x ∷ xs) other =
    let first : x ≢ c = other 0 (omega arith) in
    let test : not (x == c) ≡ true = grind (arith, nat_tests) in
    and_from (not (x == c)) (list_all (λ d. not (d == c)) xs) test (lacks_byte c xs (λ k within. other (suc k) (omega arith)))
