-- Which seeds are missing in a survey, and which occur more than once (own).
use Rattle.std.specs.Prelude.{ℕ, ⊤, ◌≡◌, ◌≤◌, ◌-◌, ◌+◌, ◌==◌, nat_lt, nat_le, min, max, Bool, ◌&&◌, cond, List, [], ◌∷◌, ◌++◌, map, count_by}
use Rattle.std.specs.List.{list_any}
use Rattle.std.specs.List.Sorted.{IsNonDecreasing, IsPermutation}
use Rattle.surveys.specs.declared.finding.Finding.{Finding}
use Rattle.surveys.specs.declared.stretch.Stretch.{Stretch}

-- Returns the seeds of these campaigns, in the order of the campaigns.
abbrev pub seeds_in : List Finding → List ℕ
seeds_in fs = map (λ (f : Finding). f.seed) fs

-- Returns how often a seed occurs among these seeds.
abbrev pub times : ℕ → List ℕ → ℕ
times x seeds = count_by (λ s. s == x) seeds

-- Checks whether a seed is in the range.
abbrev pub is_within : ℕ → Stretch → Bool
is_within x s = nat_le s.first x && nat_le x s.last

-- Checks whether a seed is in one of the ranges.
abbrev pub is_in : ℕ → List Stretch → Bool
is_in x stretches = list_any (is_within x) stretches

-- States that the ranges contain exactly the seeds from `first` to `last` that do not occur in `seeds`.
abbrev pub AreHoles : ℕ → ℕ → List ℕ → List Stretch → Type 0
AreHoles first last seeds stretches =
    (x : ℕ) → is_in x stretches ≡ (nat_le first x && (nat_le x last && (times x seeds == 0)))

-- States that the ranges contain exactly the seeds that occur in `seeds` more than once.
abbrev pub AreDoubles : List ℕ → List Stretch → Type 0
AreDoubles seeds stretches = (x : ℕ) → is_in x stretches ≡ nat_le 2 (times x seeds)

-- States that each range contains a seed, that the ranges ascend from the seed `a` on, and that between two of them
-- there is always a seed.
abbrev pub AreApartFrom : ℕ → List Stretch → Type 0
AreApartFrom a [] = ⊤
AreApartFrom a (s ∷ stretches) = (a ≤ s.first) × (s.first ≤ s.last) × AreApartFrom (s.last + 2) stretches

-- States that each range contains a seed, that the ranges ascend, and that between two of them there is always a seed.
abbrev pub AreApart : List Stretch → Type 0
AreApart stretches = AreApartFrom 0 stretches

-- States that `sorted` contains the same seeds as `seeds`, each as often, in ascending order.
pub record AreAscending (seeds sorted : List ℕ) : Type 0 where
  pub same : IsPermutation seeds sorted
  pub ascending : IsNonDecreasing sorted

-- Returns the range of the seeds from `a` to `b`, or no range if `a` is greater than `b`.
abbrev pub stretch : ℕ → ℕ → List Stretch
stretch a b = cond (nat_le a b) (record { first = a; last = b } ∷ []) []

-- Returns the ranges of the seeds from `next` to `last` that are missing in the given seeds, which are ascending.
abbrev pub gaps : ℕ → List ℕ → ℕ → List Stretch
gaps next [] last = stretch next last
gaps next (s ∷ seeds) last =
    cond (nat_lt next s) (stretch next (min (s - 1) last)) [] ++ gaps (max next (s + 1)) seeds last

-- Returns each of the given seeds, which are ascending, that equals the seed before it.
abbrev pub repeated : List ℕ → List ℕ
repeated [] = []
repeated (a ∷ []) = []
repeated (a ∷ b ∷ seeds) = cond (a == b) (b ∷ []) [] ++ repeated (b ∷ seeds)

-- Continues the range from `a` to `b` with the given seeds, which are ascending, as far as they are consecutive, and
-- puts later seeds into further ranges. Returns all these ranges.
abbrev pub stretches_from : ℕ → ℕ → List ℕ → List Stretch
stretches_from a b [] = record { first = a; last = b } ∷ []
stretches_from a b (s ∷ seeds) = cond (nat_le s (b + 1)) (stretches_from a (max b s) seeds) (record {
  first = a;
  last = b;
} ∷ stretches_from s s seeds)

-- Returns the given seeds, which are ascending, as ranges of consecutive seeds: 3, 4 and 8 give 3 to 4, and 8 to 8.
abbrev pub stretches : List ℕ → List Stretch
stretches [] = []
stretches (s ∷ seeds) = stretches_from s s seeds
