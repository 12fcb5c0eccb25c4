-- Offsets that stay within the limit, and pointers that are moved.
use Rattle.std.proofs.Common.{◌≡◌, ℤ, Bool, true, false, Option, Some, None, refl, sym, ap, cond, arith}
use Rattle.std.specs.Prelude.{◌&&◌, ◌+ℤ◌, ◌-ℤ◌, ◌≤ℤ◌, if◌then◌else◌}
use Rattle.std.specs.Int.{int_min, int_max}
use Rattle.std.proofs.lemmas.Int.{ints, clamps}
use Rattle.absval.specs.Limits.{is_near, AreOffsets}
use Rattle.absval.specs.Table.{near, raised, lowered}

both_cases : (p q : Bool) (a b x y : ℤ) → Some x ≡ (if p then Some a else None) → Some y ≡ (if q then Some b else None) → cond {A = Option (ℤ × ℤ)} (p && q) (Some (a, b)) None ≡ Some (x, y)
both_cases true true a b x y d e = cc
both_cases true false a b x y d e = absurd cc
both_cases false q a b x y d e = absurd cc

none_cases : (p q : Bool) (a b : ℤ) → None ≡ (if q then Some b else None) → cond {A = Option (ℤ × ℤ)} (p && q) (Some (a, b)) None ≡ None
none_cases true true a b e = absurd cc
none_cases true false a b e = refl
none_cases false q a b e = refl

pub both_near : (a b x y c d v w : ℤ) → Some x ≡ (if is_near a then Some a else None) → Some y ≡ (if is_near b then Some b else None) →
    c ≡ a → d ≡ b → v ≡ x → w ≡ y → Some (v, w) ≡ near (c, d)
both_near a b x y c d v w low high e f g h = rw (e, f, g, h) (sym (both_cases (is_near a) (is_near b) a b x y low high))

pub second_far : (a b d : ℤ) → None ≡ (if is_near b then Some b else None) → d ≡ b → near (a, d) ≡ None
second_far a b d far e = rw e (none_cases (is_near a) (is_near b) a b far)

-- Offsets within the limit are returned unchanged.
near_same : (o r : ℤ × ℤ) → Some r ≡ near o → r ≡ o
near_same o r e = by_test (is_near o.0 && is_near o.1) e
  where
    by_test : (t : Bool) → Some r ≡ cond {A = Option (ℤ × ℤ)} t (Some o) None → r ≡ o
    by_test true h = cc
    by_test false h = absurd cc

pub raised_holds : (o by r : ℤ × ℤ) → Some r ≡ raised o by → (x z : ℤ) → o.0 ≤ℤ x → x ≤ℤ o.1 → by.0 ≤ℤ z → z ≤ℤ by.1 → (r.0 ≤ℤ (x +ℤ z)) × ((x +ℤ z) ≤ℤ r.1)
raised_holds o by r e x z a b c d =
    let same = near_same (o.0 +ℤ by.0, o.1 +ℤ by.1) r e in
    let low : r.0 ≡ o.0 +ℤ by.0 = ap (λ (v : ℤ × ℤ). v.0) same in
    let high : r.1 ≡ o.1 +ℤ by.1 = ap (λ (v : ℤ × ℤ). v.1) same in
    (omega (arith, ints), omega (arith, ints))

pub lowered_holds : (o by r : ℤ × ℤ) → Some r ≡ lowered o by → (x z : ℤ) → o.0 ≤ℤ x → x ≤ℤ o.1 → by.0 ≤ℤ z → z ≤ℤ by.1 → (r.0 ≤ℤ (x -ℤ z)) × ((x -ℤ z) ≤ℤ r.1)
lowered_holds o by r e x z a b c d =
    let same = near_same (o.0 -ℤ by.1, o.1 -ℤ by.0) r e in
    let low : r.0 ≡ o.0 -ℤ by.1 = ap (λ (v : ℤ × ℤ). v.0) same in
    let high : r.1 ≡ o.1 -ℤ by.0 = ap (λ (v : ℤ × ℤ). v.1) same in
    (omega (arith, ints), omega (arith, ints))

-- Joined offsets are within the limit.
pub join_near : (a b c d x y : ℤ) → AreOffsets a b → AreOffsets c d → x ≡ int_min a c → y ≡ int_max b d → AreOffsets x y
join_near a b c d x y m n e f = record {
  low = omega (arith, ints, clamps, m.low, n.low);
  ordered = omega (arith, ints, clamps, m.ordered, n.ordered);
  high = omega (arith, ints, clamps, m.high, n.high);
}
