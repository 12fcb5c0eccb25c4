-- Proves the law about the values of digits and numbers.
use Rattle.std.proofs.Common.{◌≡◌, ℕ, zero, suc, ◌+◌, ◌-◌, ◌*◌, ◌^◌, ◌<◌, ◌≤◌, ◌⊎◌, inl, inr, Bool, true, false, cond, List, [], ◌∷◌, Option, Some, None, length, refl, sym, ap, subst, ◌∙◌, arith}
use Rattle.std.specs.Prelude.{codes, slice_get, min}
use Rattle.std.proofs.Math.Nat.{pow-suc, pow-zero}
use Rattle.std.proofs.lemmas.Bool.{cases_lt}
use Rattle.std.proofs.lemmas.Bool.Decides.{nat_tests}
use Rattle.text.specs.Options.{◌>>=◌}
use Rattle.text.specs.Stop.{is_within}
use Rattle.text.specs.Number.{capped, digit_in, digits_on}
use Rattle.text.specs.Laws.{AreDigits, worth, DigitsAreWorth}
use Rattle.std.proofs.lemmas.Option.{cond_some}

-- ---- characters

within : (low high c : ℕ) → is_within low high c ≡ true → (low ≤ c) × (c ≤ high)
within low high c e = (grind (arith, nat_tests), grind (arith, nat_tests))

-- The character at the index of a digit is that of the digit.
stands : (text : List ℕ) (k n c d : ℕ) → slice_get text k ≡ Some n → k ≡ d → n ≡ c → slice_get text d ≡ Some c
stands text k n c d e same is = rw (← same, ← is) e

read_as : (base k x c : ℕ) → Some x ≡ Some c → digit_in base x ≡ Some k → digit_in base c ≡ Some k
read_as base k x c e h = let same : x ≡ c = cc in subst (λ y. digit_in base y ≡ Some k) same h

ten_digits : (k : ℕ) → k < 10 → slice_get (codes "0123456789") k ≡ Some (48 + k)
ten_digits zero lt = refl
ten_digits (suc zero) lt = refl
ten_digits (suc (suc zero)) lt = refl
ten_digits (suc (suc (suc zero))) lt = refl
ten_digits (suc (suc (suc (suc zero)))) lt = refl
ten_digits (suc (suc (suc (suc (suc zero))))) lt = refl
ten_digits (suc (suc (suc (suc (suc (suc zero)))))) lt = refl
ten_digits (suc (suc (suc (suc (suc (suc (suc zero))))))) lt = refl
ten_digits (suc (suc (suc (suc (suc (suc (suc (suc zero)))))))) lt = refl
ten_digits (suc (suc (suc (suc (suc (suc (suc (suc (suc zero))))))))) lt = refl
ten_digits (suc (suc (suc (suc (suc (suc (suc (suc (suc (suc k)))))))))) lt = absurd (omega arith)

low_digits : (k : ℕ) → k < 10 → slice_get (codes "0123456789abcdef") k ≡ Some (48 + k)
low_digits zero lt = refl
low_digits (suc zero) lt = refl
low_digits (suc (suc zero)) lt = refl
low_digits (suc (suc (suc zero))) lt = refl
low_digits (suc (suc (suc (suc zero)))) lt = refl
low_digits (suc (suc (suc (suc (suc zero))))) lt = refl
low_digits (suc (suc (suc (suc (suc (suc zero)))))) lt = refl
low_digits (suc (suc (suc (suc (suc (suc (suc zero))))))) lt = refl
low_digits (suc (suc (suc (suc (suc (suc (suc (suc zero)))))))) lt = refl
low_digits (suc (suc (suc (suc (suc (suc (suc (suc (suc zero))))))))) lt = refl
low_digits (suc (suc (suc (suc (suc (suc (suc (suc (suc (suc k)))))))))) lt = absurd (omega arith)

low_letters : (k : ℕ) → k < 6 → slice_get (codes "0123456789abcdef") (10 + k) ≡ Some (97 + k)
low_letters zero lt = refl
low_letters (suc zero) lt = refl
low_letters (suc (suc zero)) lt = refl
low_letters (suc (suc (suc zero))) lt = refl
low_letters (suc (suc (suc (suc zero)))) lt = refl
low_letters (suc (suc (suc (suc (suc zero))))) lt = refl
low_letters (suc (suc (suc (suc (suc (suc k)))))) lt = absurd (omega arith)

high_letters : (k : ℕ) → k < 6 → slice_get (codes "0123456789ABCDEF") (10 + k) ≡ Some (65 + k)
high_letters zero lt = refl
high_letters (suc zero) lt = refl
high_letters (suc (suc zero)) lt = refl
high_letters (suc (suc (suc zero))) lt = refl
high_letters (suc (suc (suc (suc zero)))) lt = refl
high_letters (suc (suc (suc (suc (suc zero))))) lt = refl
high_letters (suc (suc (suc (suc (suc (suc k)))))) lt = absurd (omega arith)

ten_read : (c d : ℕ) → slice_get (codes "0123456789") d ≡ Some c → digit_in 10 c ≡ Some d
ten_read c zero e = read_as 10 0 48 c e refl
ten_read c (suc zero) e = read_as 10 1 49 c e refl
ten_read c (suc (suc zero)) e = read_as 10 2 50 c e refl
ten_read c (suc (suc (suc zero))) e = read_as 10 3 51 c e refl
ten_read c (suc (suc (suc (suc zero)))) e = read_as 10 4 52 c e refl
ten_read c (suc (suc (suc (suc (suc zero))))) e = read_as 10 5 53 c e refl
ten_read c (suc (suc (suc (suc (suc (suc zero)))))) e = read_as 10 6 54 c e refl
ten_read c (suc (suc (suc (suc (suc (suc (suc zero))))))) e = read_as 10 7 55 c e refl
ten_read c (suc (suc (suc (suc (suc (suc (suc (suc zero)))))))) e = read_as 10 8 56 c e refl
ten_read c (suc (suc (suc (suc (suc (suc (suc (suc (suc zero))))))))) e = read_as 10 9 57 c e refl
ten_read c (suc (suc (suc (suc (suc (suc (suc (suc (suc (suc k)))))))))) e = absurd cc

low_read : (c d : ℕ) → slice_get (codes "0123456789abcdef") d ≡ Some c → digit_in 16 c ≡ Some d
low_read c zero e = read_as 16 0 48 c e refl
low_read c (suc zero) e = read_as 16 1 49 c e refl
low_read c (suc (suc zero)) e = read_as 16 2 50 c e refl
low_read c (suc (suc (suc zero))) e = read_as 16 3 51 c e refl
low_read c (suc (suc (suc (suc zero)))) e = read_as 16 4 52 c e refl
low_read c (suc (suc (suc (suc (suc zero))))) e = read_as 16 5 53 c e refl
low_read c (suc (suc (suc (suc (suc (suc zero)))))) e = read_as 16 6 54 c e refl
low_read c (suc (suc (suc (suc (suc (suc (suc zero))))))) e = read_as 16 7 55 c e refl
low_read c (suc (suc (suc (suc (suc (suc (suc (suc zero)))))))) e = read_as 16 8 56 c e refl
low_read c (suc (suc (suc (suc (suc (suc (suc (suc (suc zero))))))))) e = read_as 16 9 57 c e refl
low_read c (suc (suc (suc (suc (suc (suc (suc (suc (suc (suc zero)))))))))) e = read_as 16 10 97 c e refl
low_read c (suc (suc (suc (suc (suc (suc (suc (suc (suc (suc (suc zero))))))))))) e = read_as 16 11 98 c e refl
low_read c (suc (suc (suc (suc (suc (suc (suc (suc (suc (suc (suc (suc zero)))))))))))) e = read_as 16 12 99 c e refl
low_read c (suc (suc (suc (suc (suc (suc (suc (suc (suc (suc (suc (suc (suc zero))))))))))))) e = read_as 16 13 100 c e refl
low_read c (suc (suc (suc (suc (suc (suc (suc (suc (suc (suc (suc (suc (suc (suc zero)))))))))))))) e = read_as 16 14 101 c e refl
low_read c (suc (suc (suc (suc (suc (suc (suc (suc (suc (suc (suc (suc (suc (suc (suc zero))))))))))))))) e = read_as 16 15 102 c e refl
low_read c (suc (suc (suc (suc (suc (suc (suc (suc (suc (suc (suc (suc (suc (suc (suc (suc k)))))))))))))))) e = absurd cc

high_read : (c d : ℕ) → slice_get (codes "0123456789ABCDEF") d ≡ Some c → digit_in 16 c ≡ Some d
high_read c zero e = read_as 16 0 48 c e refl
high_read c (suc zero) e = read_as 16 1 49 c e refl
high_read c (suc (suc zero)) e = read_as 16 2 50 c e refl
high_read c (suc (suc (suc zero))) e = read_as 16 3 51 c e refl
high_read c (suc (suc (suc (suc zero)))) e = read_as 16 4 52 c e refl
high_read c (suc (suc (suc (suc (suc zero))))) e = read_as 16 5 53 c e refl
high_read c (suc (suc (suc (suc (suc (suc zero)))))) e = read_as 16 6 54 c e refl
high_read c (suc (suc (suc (suc (suc (suc (suc zero))))))) e = read_as 16 7 55 c e refl
high_read c (suc (suc (suc (suc (suc (suc (suc (suc zero)))))))) e = read_as 16 8 56 c e refl
high_read c (suc (suc (suc (suc (suc (suc (suc (suc (suc zero))))))))) e = read_as 16 9 57 c e refl
high_read c (suc (suc (suc (suc (suc (suc (suc (suc (suc (suc zero)))))))))) e = read_as 16 10 65 c e refl
high_read c (suc (suc (suc (suc (suc (suc (suc (suc (suc (suc (suc zero))))))))))) e = read_as 16 11 66 c e refl
high_read c (suc (suc (suc (suc (suc (suc (suc (suc (suc (suc (suc (suc zero)))))))))))) e = read_as 16 12 67 c e refl
high_read c (suc (suc (suc (suc (suc (suc (suc (suc (suc (suc (suc (suc (suc zero))))))))))))) e = read_as 16 13 68 c e refl
high_read c (suc (suc (suc (suc (suc (suc (suc (suc (suc (suc (suc (suc (suc (suc zero)))))))))))))) e = read_as 16 14 69 c e refl
high_read c (suc (suc (suc (suc (suc (suc (suc (suc (suc (suc (suc (suc (suc (suc (suc zero))))))))))))))) e = read_as 16 15 70 c e refl
high_read c (suc (suc (suc (suc (suc (suc (suc (suc (suc (suc (suc (suc (suc (suc (suc (suc k)))))))))))))))) e = absurd cc

ten_stands : (c d : ℕ) → digit_in 10 c ≡ Some d → slice_get (codes "0123456789") d ≡ Some c
ten_stands c d e =
    let h = cond_some (is_within 48 57 c) (c - 48) d e in
    let range : (48 ≤ c) × (c ≤ 57) = within 48 57 c h.0 in
    let low : 48 ≤ c = range.0 in
    let high : c ≤ 57 = range.1 in
    let is : 48 + (c - 48) ≡ c = omega arith in
    stands (codes "0123456789") (c - 48) (48 + (c - 48)) c d (ten_digits (c - 48) (omega arith)) h.1 is

hex_by : (t u v : Bool) (x y z d : ℕ) → cond t (Some x) (cond u (Some y) (cond v (Some z) None)) ≡ Some d → ((t ≡ true) × (x ≡ d)) ⊎ (((u ≡ true) × (y ≡ d)) ⊎ ((v ≡ true) × (z ≡ d)))
hex_by true u v x y z d e = inl (refl, cc)
hex_by false true v x y z d e = inr (inl (refl, cc))
hex_by false false true x y z d e = inr (inr (refl, cc))
hex_by false false false x y z d e = absurd cc

hex_stands : (c d : ℕ) → digit_in 16 c ≡ Some d → (slice_get (codes "0123456789abcdef") d ≡ Some c) ⊎ (slice_get (codes "0123456789ABCDEF") d ≡ Some c)
hex_stands c d e = by (hex_by (is_within 48 57 c) (is_within 97 102 c) (is_within 65 70 c) (c - 48) (c - 87) (c - 55) d e)
  where
    by : ((is_within 48 57 c ≡ true) × (c - 48 ≡ d)) ⊎ (((is_within 97 102 c ≡ true) × (c - 87 ≡ d)) ⊎ ((is_within 65 70 c ≡ true) × (c - 55 ≡ d)))
        → (slice_get (codes "0123456789abcdef") d ≡ Some c) ⊎ (slice_get (codes "0123456789ABCDEF") d ≡ Some c)
    by (inl h) =
        let range : (48 ≤ c) × (c ≤ 57) = within 48 57 c h.0 in
        let low : 48 ≤ c = range.0 in
        let high : c ≤ 57 = range.1 in
        let is : 48 + (c - 48) ≡ c = omega arith in
        inl (stands (codes "0123456789abcdef") (c - 48) (48 + (c - 48)) c d (low_digits (c - 48) (omega arith)) h.1 is)
    by (inr (inl h)) =
        let range : (97 ≤ c) × (c ≤ 102) = within 97 102 c h.0 in
        let low : 97 ≤ c = range.0 in
        let high : c ≤ 102 = range.1 in
        let same : c - 87 ≡ d = h.1 in
        let k : 10 + (c - 97) ≡ d = omega arith in
        let is : 97 + (c - 97) ≡ c = omega arith in
        inl (stands (codes "0123456789abcdef") (10 + (c - 97)) (97 + (c - 97)) c d (low_letters (c - 97) (omega arith)) k is)
    by (inr (inr h)) =
        let range : (65 ≤ c) × (c ≤ 70) = within 65 70 c h.0 in
        let low : 65 ≤ c = range.0 in
        let high : c ≤ 70 = range.1 in
        let same : c - 55 ≡ d = h.1 in
        let k : 10 + (c - 65) ≡ d = omega arith in
        let is : 65 + (c - 65) ≡ c = omega arith in
        inr (stands (codes "0123456789ABCDEF") (10 + (c - 65)) (65 + (c - 65)) c d (high_letters (c - 65) (omega arith)) k is)

hex_read : (c d : ℕ) → (slice_get (codes "0123456789abcdef") d ≡ Some c) ⊎ (slice_get (codes "0123456789ABCDEF") d ≡ Some c) → digit_in 16 c ≡ Some d
hex_read c d (inl e) = low_read c d e
hex_read c d (inr e) = high_read c d e

-- ---- numbers of several digits

-- A number of 2^64 or more stays capped when a digit is appended.
grows : (b m d : ℕ) → capped (capped m * suc b + d) ≡ capped (m * suc b + d)
grows b m d = elim (cases_lt m (2 ^ 64)) [
  | inl small ↦ let same : capped m ≡ m = omega arith in ap (λ k. capped (k * suc b + d)) same
  | inr large ↦
      let same : capped m ≡ 2 ^ 64 = omega arith in
      let left : capped (2 ^ 64 * suc b + d) ≡ 2 ^ 64 = omega arith in
      let right : capped (m * suc b + d) ≡ 2 ^ 64 = omega arith in
      ap (λ k. capped (k * suc b + d)) same ∙ (left ∙ sym right)
]

goes_on : (base n d : ℕ) (ds : List ℕ) → (n * base + d) * base ^ length ds + worth base ds ≡ n * base ^ suc (length ds) + (d * base ^ length ds + worth base ds)
goes_on base n d ds = let e : base ^ suc (length ds) ≡ base ^ length ds * base = pow-suc base (length ds) in rw e (omega arith)

along : (b : ℕ) (text digits : List ℕ) (n : ℕ) → AreDigits (suc b) text digits → digits_on (suc b) (capped n) text ≡ Some (capped (n * suc b ^ length digits + worth (suc b) digits))
along b [] [] n are =
    let one : suc b ^ 0 ≡ 1 = pow-zero (suc b) in
    let e : n ≡ n * 1 + 0 = omega arith in
    rw one (ap (λ k. Some (capped k)) e)
along b [] (d ∷ ds) n are = absurd are
along b (c ∷ cs) [] n are = absurd are
along b (c ∷ cs) (d ∷ ds) n are =
    rw are.0
    (ap (λ k. digits_on (suc b) k cs) (grows b n d)
    ∙ (along b cs ds (n * suc b + d) are.1
    ∙ ap (λ k. Some (capped k)) (goes_on (suc b) n d ds)))

digits_written : (base : ℕ) (text digits : List ℕ) → 0 < base → AreDigits base text digits → digits_on base 0 text ≡ Some (capped (worth base digits))
digits_written zero text digits some are = absurd (omega arith)
digits_written (suc b) text digits some are =
    let e : 0 * suc b ^ length digits + worth (suc b) digits ≡ worth (suc b) digits = omega arith in
    along b text digits 0 are ∙ ap (λ k. Some (capped k)) e

abbrev HasDigits : ℕ → List ℕ → Type 0
HasDigits base text = (digits : List ℕ) × AreDigits base text digits

one_more : (base c k n : ℕ) (cs : List ℕ) (o : Option ℕ) → digit_in base c ≡ o → ((m : ℕ) → digits_on base m cs ≡ Some n → HasDigits base cs)
    → (o >>= λ x. digits_on base (capped (k * base + x)) cs) ≡ Some n → HasDigits base (c ∷ cs)
one_more base c k n cs None is ih h = absurd cc
one_more base c k n cs (Some d) is ih h = let rest = ih (capped (k * base + d)) h in (d ∷ rest.0, (is, rest.1))

has_digits : (base n : ℕ) (text : List ℕ) (k : ℕ) → digits_on base k text ≡ Some n → HasDigits base text
has_digits base n [] k h = ([], tt)
has_digits base n (c ∷ cs) k h = one_more base c k n cs (digit_in base c) refl (λ m. has_digits base n cs m) h

same_number : (m n : ℕ) → Some m ≡ Some n → m ≡ n
same_number m n e = cc

digits_read : (base : ℕ) (text : List ℕ) (n : ℕ) → 0 < base → digits_on base 0 text ≡ Some n → (digits : List ℕ) × AreDigits base text digits × (n ≡ capped (worth base digits))
digits_read base text n some h =
    let digits = has_digits base n text 0 h in
    (digits.0, digits.1, same_number n (capped (worth base digits.0)) (sym h ∙ digits_written base text digits.0 some digits.1))

pub digits_worth : DigitsAreWorth
digits_worth = record {
  ten = λ c d. (ten_stands c d, ten_read c d);
  sixteen = λ c d. (hex_stands c d, hex_read c d);
  read = digits_read;
  written = digits_written;
}
