-- Defines the value of a number that is written in digits, and states the law about reading it.
use Rattle.std.specs.Prelude.{ℕ, ◌≡◌, ◌+◌, ◌*◌, ◌^◌, ◌<◌, ◌⊎◌, ◌↔◌, List, [], ◌∷◌, Some, codes, length, slice_get}
use Rattle.text.specs.Number.{capped, digit_in, digits_on}

-- States that the characters of a text are the given digits, one by one.
abbrev pub AreDigits : ℕ → List ℕ → List ℕ → Type 0
AreDigits base [] [] = Unit {0}
AreDigits base (c ∷ cs) (d ∷ ds) = (digit_in base c ≡ Some d) × AreDigits base cs ds
AreDigits base _ _ = ⊥

-- Returns the value of a number that is written in digits. A digit with k digits after it counts as the digit times the
-- base to the power k.
abbrev pub worth : ℕ → List ℕ → ℕ
worth base [] = 0
worth base (d ∷ ds) = d * base ^ length ds + worth base ds

-- States which characters are the digits of base ten and of base sixteen. States also that a number that is written in
-- digits is read as its value, or as 2 ^ 64 if the value is greater.
pub record DigitsAreWorth : Type 0 where
  pub ten : (c d : ℕ) → (digit_in 10 c ≡ Some d) ↔ (slice_get (codes "0123456789") d ≡ Some c)
  pub sixteen : (c d : ℕ) → (digit_in 16 c ≡ Some d)
      ↔ ((slice_get (codes "0123456789abcdef") d ≡ Some c) ⊎ (slice_get (codes "0123456789ABCDEF") d ≡ Some c))
  pub read : (base : ℕ) (text : List ℕ) (n : ℕ) → 0 < base → digits_on base 0 text ≡ Some n →
      (digits : List ℕ) × AreDigits base text digits × (n ≡ capped (worth base digits))
  pub written : (base : ℕ) (text digits : List ℕ) → 0 < base → AreDigits base text digits →
      digits_on base 0 text ≡ Some (capped (worth base digits))
