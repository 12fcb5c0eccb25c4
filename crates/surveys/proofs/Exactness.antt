-- The ranges that `holes` and `doubles` return have exactly the right seeds.
use Rattle.std.proofs.Common.{ℕ, ◌+◌, ◌-◌, ◌<◌, ◌≤◌, ◌≡◌, Bool, true, false, cond, List, [], ◌∷◌, ◌++◌, refl, sym, ap, ◌∙◌, arith, ◌⊎◌}
use Rattle.std.specs.Prelude.{◌==◌, nat_le, nat_lt, min, max, ◌&&◌, ◌||◌, count_by}
use Rattle.std.proofs.lemmas.List.Folds.{list_any-append}
use Rattle.std.proofs.lemmas.List.Sums.{sum_by-append}
use Rattle.std.proofs.lemmas.List.Sorted.{sum_by-IsPermutation}
use Rattle.surveys.specs.declared.stretch.Stretch.{Stretch}
use Rattle.surveys.specs.Covering.{AreAscending, AreDoubles, AreHoles, gaps, is_in, is_within, repeated, stretch, stretches, stretches_from, times}
use Rattle.surveys.proofs.Comparing.{another, empty_has, equal_is, first_stretch, gap_step, last_gap, less_is, longer, or_false, twice_one, twice_other, twice_same, zero_plus}
use Rattle.surveys.proofs.Rising.{AreFrom, Rise, are_from_less, none_below, repeated_rise, rise}

-- A number is in the range from a to b exactly if it is at least a and at most b.
stretch_has : (x a b : ℕ) → is_in x (stretch a b) ≡ (nat_le a x && nat_le x b)
stretch_has x a b = go (nat_le a b) refl
  where
    go : (t : Bool) → nat_le a b ≡ t → is_in x (cond t (record { first = a; last = b } ∷ []) []) ≡ (nat_le a x && nat_le x b)
    go true e = or_false (nat_le a x && nat_le x b)
    go false e = empty_has x a b e

-- The same holds for a range that is there only if a flag is true.
if_has : (x a b : ℕ) (t : Bool) → is_in x (cond t (stretch a b) []) ≡ (t && (nat_le a x && nat_le x b))
if_has x a b true = stretch_has x a b
if_has x a b false = refl

-- How often a number occurs in a list with one more seed.
pub times_more : (x s : ℕ) (seeds : List ℕ) → times x (s ∷ seeds) ≡ cond (s == x) 1 0 + times x seeds
times_more x s seeds =
    sum_by-append (λ (y : ℕ). cond (y == x) 1 0) (s ∷ []) seeds ∙ ap (λ n. n + times x seeds) (zero_plus (cond (s == x) 1 0))

gaps_have : (next last : ℕ) (seeds : List ℕ) → Rise seeds → (x : ℕ) → is_in x (gaps next seeds last) ≡ (nat_le next x && (nat_le x last && (times x seeds == 0)))
gaps_have next last [] h x = stretch_has x next last ∙ last_gap (nat_le next x) (nat_le x last)
gaps_have next last (s ∷ seeds) h x =
    let here = if_has x next (min (s - 1) last) (nat_lt next s) in
    let more = gaps_have (max next (s + 1)) last seeds h.1 x in
    let step : (is_in x (cond (nat_lt next s) (stretch next (min (s - 1) last)) []) || is_in x (gaps (max next (s + 1)) seeds last))
    ≡ (nat_le next x && (nat_le x last && ((cond (s == x) 1 0 + times x seeds) == 0))) = rw (here, more) (gap_step next s x last (times x seeds) (λ lt. none_below x s seeds lt h.0)) in
    list_any-append (is_within x) (cond (nat_lt next s) (stretch next (min (s - 1) last)) []) (gaps (max next (s + 1)) seeds last)
    ∙ (step ∙ ap (λ n. nat_le next x && (nat_le x last && (n == 0))) (sym (times_more x s seeds)))

-- A sorted list contains each seed as often as the list does.
as_often : (seeds sorted : List ℕ) → AreAscending seeds sorted → (x : ℕ) → times x sorted ≡ times x seeds
as_often seeds sorted h x = sum_by-IsPermutation (λ s. cond (s == x) 1 0) seeds sorted h.same

pub holes_exact : (first last : ℕ) (seeds sorted : List ℕ) → AreAscending seeds sorted → AreHoles first last seeds (gaps first sorted last)
holes_exact first last seeds sorted h = λ x. rw (as_often seeds sorted h x) at (gaps_have first last sorted (rise sorted h.ascending) x)

-- One more seed equals the seed after it, or not. In both cases the repeated seeds are those that occur twice.
repeated_next : (a b x : ℕ) (seeds : List ℕ) → a ≤ b → AreFrom b (b ∷ seeds) → (t : Bool) → (a == b) ≡ t → nat_lt 0 (times x (repeated (b ∷ seeds))) ≡ nat_le 2 (times x (b ∷ seeds))
    → nat_lt 0 (times x (cond t (b ∷ []) [] ++ repeated (b ∷ seeds))) ≡ nat_le 2 (times x (a ∷ b ∷ seeds))
repeated_next a b x seeds le h true e more =
    let both = times_more x a (b ∷ seeds) ∙ ap (λ n. cond (a == x) 1 0 + n) (times_more x b seeds) in
    ap (nat_lt 0) (times_more x b (repeated (b ∷ seeds)))
    ∙ (twice_same a b x (times x seeds) (times x (repeated (b ∷ seeds))) (equal_is a b e) (more ∙ ap (nat_le 2) (times_more x b seeds)) ∙ sym (ap (nat_le 2) both))
repeated_next a b x seeds le h false e more =
    twice_other a b x (times x (b ∷ seeds)) (times x (repeated (b ∷ seeds))) (less_is a b le e) (λ lt. none_below x b (b ∷ seeds) lt h) more
    ∙ sym (ap (nat_le 2) (times_more x a (b ∷ seeds)))

repeated_have : (seeds : List ℕ) → Rise seeds → (x : ℕ) → nat_lt 0 (times x (repeated seeds)) ≡ nat_le 2 (times x seeds)
repeated_have [] h x = refl
repeated_have (a ∷ []) h x = twice_one a x ∙ ap (nat_le 2) (sym (times_more x a []))
repeated_have (a ∷ b ∷ seeds) h x = repeated_next a b x seeds h.0.0 (omega arith, h.1.0) (a == b) refl (repeated_have (b ∷ seeds) h.1 x)

-- One more seed continues the current range or begins another one. In both cases the ranges have the right seeds.
stretches_next : (a b s x : ℕ) (seeds : List ℕ) → a ≤ b → b ≤ s → (t : Bool) → nat_le s (b + 1) ≡ t
    → is_in x (stretches_from a (max b s) seeds) ≡ ((nat_le a x && nat_le x (max b s)) || nat_lt 0 (times x seeds))
    → is_in x (stretches_from s s seeds) ≡ ((nat_le s x && nat_le x s) || nat_lt 0 (times x seeds))
    → is_in x (cond t (stretches_from a (max b s) seeds) (record { first = a; last = b } ∷ stretches_from s s seeds)) ≡ ((nat_le a x && nat_le x b) || nat_lt 0 (times x (s ∷ seeds)))
stretches_next a b s x seeds le more true e same other = same ∙ (longer a b s x (times x seeds) le more e ∙ ap (λ n. (nat_le a x && nat_le x b) || nat_lt 0 n) (sym (times_more x s seeds)))
stretches_next a b s x seeds le more false e same other =
    ap (λ (y : Bool). (nat_le a x && nat_le x b) || y) other
    ∙ (another (nat_le a x && nat_le x b) s x (times x seeds) ∙ ap (λ n. (nat_le a x && nat_le x b) || nat_lt 0 n) (sym (times_more x s seeds)))

stretches_have : (a b : ℕ) (seeds : List ℕ) → a ≤ b → AreFrom b seeds → Rise seeds → (x : ℕ)
    → is_in x (stretches_from a b seeds) ≡ ((nat_le a x && nat_le x b) || nat_lt 0 (times x seeds))
stretches_have a b [] le h r x = refl
stretches_have a b (s ∷ seeds) le h r x =
    let more = h.0 in
    stretches_next a b s x seeds le more (nat_le s (b + 1)) refl
    (stretches_have a (max b s) seeds (omega (arith, more, le)) (are_from_less (max b s) s seeds (omega (arith, more)) r.0) r.1 x)
    (stretches_have s s seeds (omega arith) r.0 r.1 x)

all_stretches : (seeds : List ℕ) → Rise seeds → (x : ℕ) → is_in x (stretches seeds) ≡ nat_lt 0 (times x seeds)
all_stretches [] h x = refl
all_stretches (s ∷ seeds) h x = stretches_have s s seeds (omega arith) h.0 h.1 x ∙ (first_stretch s x (times x seeds) ∙ ap (nat_lt 0) (sym (times_more x s seeds)))

pub doubles_exact : (seeds sorted : List ℕ) → AreAscending seeds sorted → AreDoubles seeds (stretches (repeated sorted))
doubles_exact seeds sorted h = λ x. (
    let up = rise sorted h.ascending in
    all_stretches (repeated sorted) (repeated_rise sorted up) x ∙ (repeated_have sorted up x ∙ ap (nat_le 2) (as_often seeds sorted h x)))
