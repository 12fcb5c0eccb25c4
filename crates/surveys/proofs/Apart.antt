-- The ranges that `holes` and `doubles` return are apart: between two of them there is always a seed.
use Rattle.std.proofs.Common.{ℕ, ◌+◌, ◌-◌, ◌≤◌, ◌≡◌, Bool, true, false, cond, List, [], ◌∷◌, ◌++◌, refl, arith}
use Rattle.std.specs.Prelude.{nat_le, nat_lt, min, max}
use Rattle.std.proofs.lemmas.Bool.{leb-true, leb-false, ltb-true}
use Rattle.surveys.specs.declared.stretch.Stretch.{Stretch}
use Rattle.surveys.specs.Covering.{AreApart, AreApartFrom, gaps, stretch, stretches, stretches_from}

apart_later : (a b : ℕ) (ss : List Stretch) → a ≤ b → AreApartFrom b ss → AreApartFrom a ss
apart_later a b [] le h = tt
apart_later a b (s ∷ ss) le h = let far = h.0 in (omega (arith, le, far), h.1, h.2)

stretch_apart : (a b : ℕ) (t : Bool) → nat_le a b ≡ t → AreApartFrom a (cond t (record { first = a; last = b } ∷ []) [])
stretch_apart a b true e = (omega arith, leb-true a b e, tt)
stretch_apart a b false e = tt

-- A range before other ranges keeps them apart if it has seeds and ends early enough.
front_apart : (a b : ℕ) (ss : List Stretch) (t : Bool) → nat_le a b ≡ t → AreApartFrom (b + 2) ss → AreApartFrom a ss → AreApartFrom a (cond t (record { first = a; last = b } ∷ []) [] ++ ss)
front_apart a b ss true e near far = (omega arith, leb-true a b e, near)
front_apart a b ss false e near far = far

gap_apart : (next s last : ℕ) (ss : List Stretch) (t : Bool) → nat_lt next s ≡ t → AreApartFrom (max next (s + 1)) ss → AreApartFrom next (cond t (stretch next (min (s - 1) last)) [] ++ ss)
gap_apart next s last ss true e h =
    let lt = ltb-true next s e in
    front_apart next (min (s - 1) last) ss (nat_le next (min (s - 1) last)) refl
    (apart_later (min (s - 1) last + 2) (max next (s + 1)) ss (omega (arith, lt)) h)
    (apart_later next (max next (s + 1)) ss (omega arith) h)
gap_apart next s last ss false e h = apart_later next (max next (s + 1)) ss (omega arith) h

gaps_apart : (next : ℕ) (seeds : List ℕ) (last : ℕ) → AreApartFrom next (gaps next seeds last)
gaps_apart next [] last = stretch_apart next last (nat_le next last) refl
gaps_apart next (s ∷ seeds) last = gap_apart next s last (gaps (max next (s + 1)) seeds last) (nat_lt next s) refl (gaps_apart (max next (s + 1)) seeds last)

pub all_gaps_apart : (first : ℕ) (seeds : List ℕ) (last : ℕ) → AreApart (gaps first seeds last)
all_gaps_apart first seeds last = apart_later 0 first (gaps first seeds last) (omega arith) (gaps_apart first seeds last)

-- One more seed continues the current range or begins another one. In both cases the ranges are apart.
next_apart : (a b s : ℕ) (seeds : List ℕ) (t : Bool) → nat_le s (b + 1) ≡ t → a ≤ b → AreApartFrom a (stretches_from a (max b s) seeds) → AreApartFrom s (stretches_from s s seeds)
    → AreApartFrom a (cond t (stretches_from a (max b s) seeds) (record { first = a; last = b } ∷ stretches_from s s seeds))
next_apart a b s seeds true e le same other = same
next_apart a b s seeds false e le same other =
    let far = leb-false s (b + 1) e in
    (omega arith, le, apart_later (b + 2) s (stretches_from s s seeds) (omega (arith, far)) other)

from_apart : (a b : ℕ) (seeds : List ℕ) → a ≤ b → AreApartFrom a (stretches_from a b seeds)
from_apart a b [] le = (omega arith, le, tt)
from_apart a b (s ∷ seeds) le = next_apart a b s seeds (nat_le s (b + 1)) refl le (from_apart a (max b s) seeds (omega (arith, le))) (from_apart s s seeds (omega arith))

pub all_apart : (seeds : List ℕ) → AreApart (stretches seeds)
all_apart [] = tt
all_apart (s ∷ seeds) = apart_later 0 s (stretches_from s s seeds) (omega arith) (from_apart s s seeds (omega arith))
