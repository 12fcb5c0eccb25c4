-- Numbers in parts of cells.
use Rattle.std.proofs.Common.{◌≡◌, ℕ, suc, ◌+◌, ◌*◌, ◌^◌, ◌≤◌, List, [], ◌∷◌, ◌++◌, length, take, drop, refl, sym, ap, ◌∙◌, arith}
use Rattle.std.specs.Prelude.{Result, Ok, Err, Some, None}
use Rattle.std.proofs.lemmas.List.{drop-drop, length-take-le, length-drop}
use Rattle.std.proofs.Math.Nat.{pow-succ', mul_assoc}
use Rattle.word.specs.Bytes.{little_number}
use Rattle.semantics.specs.declared.value.Cell.{Cell}
use Rattle.semantics.specs.declared.value.Cell.TheVariants.{Empty, Byte, Piece}
use Rattle.semantics.specs.State.{Cause, given}
use Rattle.semantics.specs.Memory.{bytes_in}
use Rattle.mem.specs.Reading.{number_in, Reads}
use Rattle.mem.proofs.Parts.{take-split}

-- The bytes of a number in two parts.
pub little_number-append : (xs ys : List ℕ) → little_number (xs ++ ys) ≡ little_number xs + 256 ^ length xs * little_number ys
little_number-append [] ys = omega arith
little_number-append (x ∷ xs) ys =
    let ih = little_number-append xs ys in
    let p : 256 ^ suc (length xs) * little_number ys ≡ 256 * (256 ^ length xs * little_number ys) =
    ap (λ (k : ℕ). k * little_number ys) (pow-succ' 256 (length xs)) ∙ mul_assoc 256 (256 ^ length xs) (little_number ys) in
    omega (arith, ih, p)

-- The number before another.
first_byte : (b : ℕ) (r : Result (List ℕ) Cause) → given (given r (λ bytes. Ok (b ∷ bytes))) (λ bytes. Ok (little_number bytes)) ≡ given (given r (λ bytes. Ok (little_number bytes))) (λ n. Ok (b + 256 * n))
first_byte b (Ok bytes) = refl
first_byte b (Err cause) = refl

pub number_in-byte : (b : ℕ) (xs : List Cell) → number_in (Byte b ∷ xs) ≡ given (number_in xs) (λ n. Ok (b + 256 * n))
number_in-byte b xs = first_byte b (bytes_in xs)

-- The result from the results of the two parts.
abbrev pub both : ℕ → Result ℕ Cause → Result ℕ Cause → Result ℕ Cause
both size a b = given a (λ m. given b (λ n. Ok (m + 256 ^ size * n)))

both_byte : (b size : ℕ) (p q : Result ℕ Cause) → given (both size p q) (λ n. Ok (b + 256 * n)) ≡ both (suc size) (given p (λ n. Ok (b + 256 * n))) q
both_byte b size (Err cause) q = refl
both_byte b size (Ok m) (Err cause) = refl
both_byte b size (Ok m) (Ok n) =
    let p : 256 ^ suc size * n ≡ 256 * (256 ^ size * n) = ap (λ (k : ℕ). k * n) (pow-succ' 256 size) ∙ mul_assoc 256 (256 ^ size) n in
    let e : b + 256 * (m + 256 ^ size * n) ≡ b + 256 * m + 256 ^ suc size * n = omega (arith, p) in
    ap (λ (k : ℕ). Ok k) e

both_none : (r : Result ℕ Cause) → both 0 (Ok 0) r ≡ r
both_none (Ok n) = let e : 0 + 256 ^ 0 * n ≡ n = omega arith in ap (λ (k : ℕ). Ok k) e
both_none (Err cause) = refl

-- The number in two parts.
pub number_in-append : (xs ys : List Cell) → number_in (xs ++ ys) ≡ both (length xs) (number_in xs) (number_in ys)
number_in-append [] ys = sym (both_none (number_in ys))
number_in-append (Empty ∷ xs) ys = refl
number_in-append (Byte b ∷ xs) ys =
    number_in-byte b (xs ++ ys)
    ∙ (ap (λ (r : Result ℕ Cause). given r (λ n. Ok (b + 256 * n))) (number_in-append xs ys)
    ∙ (both_byte b (length xs) (number_in xs) (number_in ys)
    ∙ ap (λ (r : Result ℕ Cause). both (suc (length xs)) r (number_in ys)) (sym (number_in-byte b xs))))
number_in-append (Piece i region offset ∷ xs) ys = refl

-- Two adjacent parts, read together.
pub reads_both : (cells : List Cell) (place m n : ℕ) → place + m ≤ length cells →
    number_in (take (m + n) (drop place cells)) ≡ both m (number_in (take m (drop place cells))) (number_in (take n (drop (place + m) cells)))
reads_both cells place m n fits =
    let room : m ≤ length (drop place cells) = omega (arith, length-drop place cells) in
    let long : length (take m (drop place cells)) ≡ m = length-take-le m (drop place cells) room in
    ap number_in (take-split m n (drop place cells))
    ∙ (number_in-append (take m (drop place cells)) (take n (drop m (drop place cells)))
    ∙ (ap (λ (k : ℕ). both k (number_in (take m (drop place cells))) (number_in (take n (drop m (drop place cells))))) long
    ∙ ap (λ (l : List Cell). both m (number_in (take m (drop place cells))) (number_in (take n l))) (drop-drop m place cells)))

pub reads_low : (cells : List Cell) (place m n : ℕ) → place + m ≤ length cells → Reads cells place m None → Reads cells place (m + n) None
reads_low cells place m n fits none = reads_both cells place m n fits ∙ ap (λ (r : Result ℕ Cause). both m r (number_in (take n (drop (place + m) cells)))) none

pub reads_high : (cells : List Cell) (place m n a : ℕ) → place + m ≤ length cells → Reads cells place m (Some a) → Reads cells (place + m) n None → Reads cells place (m + n) None
reads_high cells place m n a fits low none =
    reads_both cells place m n fits
    ∙ (ap (λ (r : Result ℕ Cause). both m r (number_in (take n (drop (place + m) cells)))) low ∙ ap (λ (r : Result ℕ Cause). both m (Ok a) r) none)

pub reads_number : (cells : List Cell) (place m n a b : ℕ) → place + m ≤ length cells → Reads cells place m (Some a) → Reads cells (place + m) n (Some b) →
    Reads cells place (m + n) (Some (a + 256 ^ m * b))
reads_number cells place m n a b fits low high =
    reads_both cells place m n fits
    ∙ (ap (λ (r : Result ℕ Cause). both m r (number_in (take n (drop (place + m) cells)))) low ∙ ap (λ (r : Result ℕ Cause). both m (Ok a) r) high)

-- The same for bytes.
pub number_both : (bytes : List ℕ) (place m n : ℕ) → place + m ≤ length bytes →
    little_number (take (m + n) (drop place bytes)) ≡ little_number (take m (drop place bytes)) + 256 ^ m * little_number (take n (drop (place + m) bytes))
number_both bytes place m n fits =
    let room : m ≤ length (drop place bytes) = omega (arith, length-drop place bytes) in
    let long : length (take m (drop place bytes)) ≡ m = length-take-le m (drop place bytes) room in
    ap little_number (take-split m n (drop place bytes))
    ∙ (little_number-append (take m (drop place bytes)) (take n (drop m (drop place bytes)))
    ∙ (ap (λ (k : ℕ). little_number (take m (drop place bytes)) + 256 ^ k * little_number (take n (drop m (drop place bytes)))) long
    ∙ ap (λ (l : List ℕ). little_number (take m (drop place bytes)) + 256 ^ m * little_number (take n l)) (drop-drop m place bytes)))
