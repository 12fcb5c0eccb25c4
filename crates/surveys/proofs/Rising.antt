-- Ascending seeds.
use Rattle.std.proofs.Common.{ℕ, zero, suc, ◌+◌, ◌<◌, ◌≤◌, ◌≡◌, Bool, true, false, cond, List, [], ◌∷◌, ◌++◌, length, drop, get_or, refl, arith}
use Rattle.std.specs.Prelude.{⊤, ◌==◌}
use Rattle.std.specs.List.Sorted.{IsNonDecreasing}
use Rattle.surveys.proofs.Comparing.{apart}
use Rattle.surveys.specs.Covering.{repeated, times}

-- Each seed is at least `a`.
abbrev pub AreFrom : ℕ → List ℕ → Type 0
AreFrom a [] = ⊤
AreFrom a (s ∷ seeds) = (a ≤ s) × AreFrom a seeds

-- Each seed is at most each later one.
abbrev pub Rise : List ℕ → Type 0
Rise [] = ⊤
Rise (s ∷ seeds) = AreFrom s seeds × Rise seeds

are_from : (a : ℕ) (seeds : List ℕ) → ((j d : ℕ) → j < length seeds → a ≤ get_or seeds j d) → AreFrom a seeds
are_from a [] h = tt
are_from a (s ∷ seeds) h = (h 0 0 (omega arith), are_from a seeds (λ j d lt. h (suc j) d (omega arith)))

pub rise : (seeds : List ℕ) → IsNonDecreasing seeds → Rise seeds
rise [] h = tt
rise (s ∷ seeds) h =
    (are_from s seeds (λ j d lt. h 0 (suc j) d (omega arith) (omega arith)), rise seeds (λ i j d le lt. h (suc i) (suc j) d (omega arith) (omega arith)))

pub are_from_less : (a b : ℕ) (seeds : List ℕ) → a ≤ b → AreFrom b seeds → AreFrom a seeds
are_from_less a b [] le h = tt
are_from_less a b (s ∷ seeds) le h = let more = h.0 in (omega arith, are_from_less a b seeds le h.1)

-- A number less than all seeds does not occur among them.
pub none_below : (x a : ℕ) (seeds : List ℕ) → x < a → AreFrom a seeds → times x seeds ≡ 0
none_below x a [] lt h = refl
none_below x a (s ∷ seeds) lt h =
    let le = h.0 in
    rw (apart s x (omega arith), none_below x a seeds lt h.1) refl

-- A list of one seed has no repeated seed.
pub last_none : (seeds : List ℕ) (k : ℕ) → length seeds ≤ k + 1 → repeated (drop k seeds) ≡ []
last_none [] zero le = refl
last_none [] (suc k) le = refl
last_none (a ∷ []) zero le = refl
last_none (a ∷ b ∷ seeds) zero le = absurd (omega arith)
last_none (a ∷ seeds) (suc k) le = last_none seeds k (omega arith)

-- The repeated seeds are at least the first seed.
from_if : (a b : ℕ) (t : Bool) (seeds : List ℕ) → a ≤ b → AreFrom a seeds → AreFrom a (cond t (b ∷ []) [] ++ seeds)
from_if a b true seeds le h = (le, h)
from_if a b false seeds le h = h

pub repeated_from : (a : ℕ) (seeds : List ℕ) → AreFrom a seeds → AreFrom a (repeated seeds)
repeated_from a [] h = tt
repeated_from a (b ∷ []) h = tt
repeated_from a (b ∷ c ∷ seeds) h = from_if a c (b == c) (repeated (c ∷ seeds)) h.1.0 (repeated_from a (c ∷ seeds) h.1)

rise_if : (b : ℕ) (t : Bool) (seeds : List ℕ) → AreFrom b seeds → Rise seeds → Rise (cond t (b ∷ []) [] ++ seeds)
rise_if b true seeds h r = (h, r)
rise_if b false seeds h r = r

itself : (c : ℕ) (seeds : List ℕ) → Rise (c ∷ seeds) → AreFrom c (c ∷ seeds)
itself c seeds h = (omega arith, h.0)

pub repeated_rise : (seeds : List ℕ) → Rise seeds → Rise (repeated seeds)
repeated_rise [] h = tt
repeated_rise (b ∷ []) h = tt
repeated_rise (b ∷ c ∷ seeds) h =
    rise_if c (b == c) (repeated (c ∷ seeds)) (repeated_from c (c ∷ seeds) (itself c seeds h.1)) (repeated_rise (c ∷ seeds) h.1)
