-- The edges of a conditional jump on two ranges: the narrowed ranges contain the numbers that go this way.
use Rattle.std.proofs.Common.{◌≡◌, ◌∙◌, ◌≢◌, ℕ, ◌+◌, ◌-◌, ◌^◌, ◌<◌, ◌≤◌, min, max, Bool, true, false, Option, Some, None, refl, sym, ap, ap₂, arith}
use Rattle.std.specs.Prelude.{◌==◌, ◌&&◌, nat_lt, nat_le, not, int_lt, int_le, ℤ}
use Rattle.std.proofs.lemmas.Bool.{ltb-true, ltb-false, leb-true, leb-false, eqb-true, eqb-false, lt-ltb, le-leb, and_parts}
use Rattle.word.specs.declared.Width.{Width}
use Rattle.word.specs.declared.Width.TheVariants.{W32, W64}
use Rattle.word.specs.declared.Condition.{Condition}
use Rattle.word.specs.declared.Condition.TheVariants.{Equal, Above, AtLeast, AnyBit, NotEqual, SignedAbove, SignedAtLeast, Below, AtMost, SignedBelow, SignedAtMost}
use Rattle.word.specs.Arithmetic.{bits_of, taken, related, compared}
use Rattle.range.specs.Interval.{IsIn}
use Rattle.range.specs.Table.{sign_limit}
use Rattle.range.specs.Edges.{Pair, both, exchanged, without, equal, different, above, at_least, edge, meets, opposite, edge_limit, edge_taken, tells, refined, HoldBoth}
use Rattle.range.proofs.RangeRows.{by_test}
use Rattle.range.proofs.RangeTable.{taken_same}
use Rattle.range.proofs.SignedRows.{signed_small}

both_hold : (p q : ℕ × ℕ) (x y : ℕ) → IsIn p.0 p.1 x → IsIn q.0 q.1 y → HoldBoth (both p q) x y
both_hold p q x y h k =
    by_test (λ (o : Option Pair). HoldBoth o x y) (nat_lt p.1 p.0) _ _
    (λ t. absurd (let l : p.1 < p.0 = ltb-true p.1 p.0 t in omega (arith, h.0, h.1)))
    (λ f. by_test (λ (o : Option Pair). HoldBoth o x y) (nat_lt q.1 q.0) _ _
    (λ t. absurd (let l : q.1 < q.0 = ltb-true q.1 q.0 t in omega (arith, k.0, k.1)))
    (λ g. (h, k)))

exchanged_hold : (o : Option Pair) (x y : ℕ) → HoldBoth o y x → HoldBoth (exchanged o) x y
exchanged_hold None x y h = h
exchanged_hold (Some e) x y h = (h.1, h.0)

without_holds : (p q : ℕ × ℕ) (x y : ℕ) → IsIn p.0 p.1 x → IsIn q.0 q.1 y → (x ≡ y → ⊥) → IsIn (without p q).0 (without p q).1 x
without_holds p q x y h k other =
    by_test (λ (r : ℕ × ℕ). IsIn r.0 r.1 x) (q.0 == q.1) _ _
    (λ t. let one : q.0 ≡ q.1 = eqb-true q.0 q.1 t in
    let here : y ≡ q.0 = omega (arith, k.0, k.1) in
    by_test (λ (r : ℕ × ℕ). IsIn r.0 r.1 x) (p.0 == q.0) _ _
    (λ u. let low : p.0 ≡ q.0 = eqb-true p.0 q.0 u in
    let apart : x ≢ y = other in
    (omega (arith, h.0), h.1))
    (λ f. by_test (λ (r : ℕ × ℕ). IsIn r.0 r.1 x) (p.1 == q.0) _ _
    (λ u. let high : p.1 ≡ q.0 = eqb-true p.1 q.0 u in
    let apart : x ≢ y = other in
    (h.0, omega (arith, h.1)))
    (λ g. h)))
    (λ f. h)

equal_holds : (p q : ℕ × ℕ) (x y : ℕ) → IsIn p.0 p.1 x → IsIn q.0 q.1 y → x ≡ y → HoldBoth (equal p q) x y
equal_holds p q x y h k e =
    both_hold (max p.0 q.0, min p.1 q.1) (max p.0 q.0, min p.1 q.1) x y
    (omega (arith, h.0, k.0), omega (arith, h.1, k.1)) (omega (arith, h.0, k.0), omega (arith, h.1, k.1))

different_holds : (p q : ℕ × ℕ) (x y : ℕ) → IsIn p.0 p.1 x → IsIn q.0 q.1 y → (x ≡ y → ⊥) → HoldBoth (different p q) x y
different_holds p q x y h k other =
    both_hold (without p q) (without q p) x y (without_holds p q x y h k other) (without_holds q p y x k h (λ e. other (sym e)))

above_holds : (p q : ℕ × ℕ) (x y : ℕ) → IsIn p.0 p.1 x → IsIn q.0 q.1 y → y < x → HoldBoth (above p q) x y
above_holds p q x y h k lt =
    both_hold (max p.0 (q.0 + 1), p.1) (q.0, min q.1 (p.1 - 1)) x y (omega (arith, h.0, k.0), h.1) (k.0, omega (arith, h.1, k.1))

at_least_holds : (p q : ℕ × ℕ) (x y : ℕ) → IsIn p.0 p.1 x → IsIn q.0 q.1 y → y ≤ x → HoldBoth (at_least p q) x y
at_least_holds p q x y h k le =
    both_hold (max p.0 q.0, p.1) (q.0, min q.1 p.1) x y (omega (arith, h.0, k.0), h.1) (k.0, omega (arith, h.1, k.1))

not_true : (b : Bool) → not b ≡ true → b ≡ false
not_true true e = cc
not_true false e = refl

not_false : (b : Bool) → not b ≡ false → b ≡ true
not_false true e = refl
not_false false e = cc

edge_holds : (c : Condition) (p q : ℕ × ℕ) (x y : ℕ) → IsIn p.0 p.1 x → IsIn q.0 q.1 y → meets c x y ≡ true → HoldBoth (edge c p q) x y
edge_holds Equal p q x y h k m = equal_holds p q x y h k (eqb-true x y m)
edge_holds NotEqual p q x y h k m = different_holds p q x y h k (eqb-false x y (not_true (x == y) m))
edge_holds Above p q x y h k m = above_holds p q x y h k (ltb-true y x m)
edge_holds SignedAbove p q x y h k m = above_holds p q x y h k (ltb-true y x m)
edge_holds AtLeast p q x y h k m = at_least_holds p q x y h k (leb-true y x m)
edge_holds SignedAtLeast p q x y h k m = at_least_holds p q x y h k (leb-true y x m)
edge_holds Below p q x y h k m = exchanged_hold (above q p) x y (above_holds q p y x k h (ltb-true x y m))
edge_holds SignedBelow p q x y h k m = exchanged_hold (above q p) x y (above_holds q p y x k h (ltb-true x y m))
edge_holds AtMost p q x y h k m = exchanged_hold (at_least q p) x y (at_least_holds q p y x k h (leb-true x y m))
edge_holds SignedAtMost p q x y h k m = exchanged_hold (at_least q p) x y (at_least_holds q p y x k h (leb-true x y m))
edge_holds AnyBit p q x y h k m = (h, k)

lt_of_false : (x y : ℕ) → nat_le y x ≡ false → nat_lt x y ≡ true
lt_of_false x y e = lt-ltb x y (leb-false y x e)

le_of_false : (x y : ℕ) → nat_lt y x ≡ false → nat_le x y ≡ true
le_of_false x y e = le-leb x y (ltb-false y x e)

opposite_meets : (c : Condition) (x y : ℕ) → meets c x y ≡ false → meets (opposite c) x y ≡ true
opposite_meets Equal x y m = ap not m
opposite_meets NotEqual x y m = not_false (x == y) m
opposite_meets Above x y m = le_of_false x y m
opposite_meets SignedAbove x y m = le_of_false x y m
opposite_meets AtLeast x y m = lt_of_false x y m
opposite_meets SignedAtLeast x y m = lt_of_false x y m
opposite_meets Below x y m = le_of_false y x m
opposite_meets SignedBelow x y m = le_of_false y x m
opposite_meets AtMost x y m = lt_of_false y x m
opposite_meets SignedAtMost x y m = lt_of_false y x m
opposite_meets AnyBit x y m = refl

-- Proves that numbers below the limit are compared as unsigned numbers.
related_meets : (w : Width) (c : Condition) (x y : ℕ) → tells c ≡ true → x < edge_limit w c → y < edge_limit w c → related w c x y ≡ meets c x y
related_meets w Equal x y t h k = refl
related_meets w NotEqual x y t h k = refl
related_meets w Above x y t h k = refl
related_meets w AtLeast x y t h k = refl
related_meets w Below x y t h k = refl
related_meets w AtMost x y t h k = refl
related_meets w SignedAbove x y t h k = ap₂ (λ (a b : ℤ). int_lt b a) (signed_small w x h) (signed_small w y k)
related_meets w SignedAtLeast x y t h k = ap₂ (λ (a b : ℤ). int_le b a) (signed_small w x h) (signed_small w y k)
related_meets w SignedBelow x y t h k = ap₂ (λ (a b : ℤ). int_lt a b) (signed_small w x h) (signed_small w y k)
related_meets w SignedAtMost x y t h k = ap₂ (λ (a b : ℤ). int_le a b) (signed_small w x h) (signed_small w y k)
related_meets w AnyBit x y t h k = absurd cc

half_le : (w : Width) → sign_limit w ≤ 2 ^ bits_of w
half_le W32 = omega arith
half_le W64 = omega arith

limit_le : (w : Width) (c : Condition) → edge_limit w c ≤ 2 ^ bits_of w
limit_le w Equal = omega arith
limit_le w NotEqual = omega arith
limit_le w Above = omega arith
limit_le w AtLeast = omega arith
limit_le w Below = omega arith
limit_le w AtMost = omega arith
limit_le w AnyBit = omega arith
limit_le w SignedAbove = half_le w
limit_le w SignedAtLeast = half_le w
limit_le w SignedBelow = half_le w
limit_le w SignedAtMost = half_le w

taken_holds : (c : Condition) (way : Bool) (p q : ℕ × ℕ) (x y : ℕ) → IsIn p.0 p.1 x → IsIn q.0 q.1 y → meets c x y ≡ way → HoldBoth (edge_taken c way p q) x y
taken_holds c true p q x y h k m = edge_holds c p q x y h k m
taken_holds c false p q x y h k m = edge_holds (opposite c) p q x y h k (opposite_meets c x y m)

pub refined_holds : (w : Width) (c : Condition) (way : Bool) (p q : ℕ × ℕ) (x y : ℕ) → tells c ≡ true → IsIn p.0 p.1 x → IsIn q.0 q.1 y → compared w c x y ≡ way →
    HoldBoth (refined w c way p q) x y
unfolding refined
refined_holds w c way p q x y told h k m =
    by_test (λ (o : Option Pair). HoldBoth o x y) (nat_lt p.1 (edge_limit w c) && nat_lt q.1 (edge_limit w c)) _ _
    (λ t. let parts = and_parts (nat_lt p.1 (edge_limit w c)) (nat_lt q.1 (edge_limit w c)) t in
    let a : x < edge_limit w c = let l : p.1 < edge_limit w c = ltb-true p.1 (edge_limit w c) parts.0 in omega (arith, h.1) in
    let b : y < edge_limit w c = let l : q.1 < edge_limit w c = ltb-true q.1 (edge_limit w c) parts.1 in omega (arith, k.1) in
    let le = limit_le w c in
    let s : taken w x ≡ x = taken_same w x (omega (arith, le)) in
    let r : taken w y ≡ y = taken_same w y (omega (arith, le)) in
    taken_holds c way p q x y h k (sym (ap₂ (λ (m n : ℕ). related w c m n) s r ∙ related_meets w c x y told a b) ∙ m))
    (λ f. (h, k))

-- ---- the results are ranges of words

pub record AreIntervals (e : Pair) : Type 0 where
  pub first : e.0.0 ≤ e.0.1
  pub second : e.1.0 ≤ e.1.1
  pub few : e.0.1 < 2 ^ 64
  pub small : e.1.1 < 2 ^ 64

abbrev pub Left : Option Pair → Type 0
Left None = Unit {0}
Left (Some e) = AreIntervals e

both_left : (p q : ℕ × ℕ) → p.1 < 2 ^ 64 → q.1 < 2 ^ 64 → Left (both p q)
both_left p q h k =
    by_test Left (nat_lt p.1 p.0) _ _ (λ t. tt)
    (λ f. by_test Left (nat_lt q.1 q.0) _ _ (λ t. tt)
    (λ g. record { first = ltb-false p.1 p.0 f; second = ltb-false q.1 q.0 g; few = h; small = k }))

exchanged_left : (o : Option Pair) → Left o → Left (exchanged o)
exchanged_left None h = tt
exchanged_left (Some e) h = record { first = h.second; second = h.first; few = h.small; small = h.few }

without_small : (p q : ℕ × ℕ) → p.1 < 2 ^ 64 → (without p q).1 < 2 ^ 64
without_small p q h =
    by_test (λ (r : ℕ × ℕ). r.1 < 2 ^ 64) (q.0 == q.1) _ _
    (λ t. by_test (λ (r : ℕ × ℕ). r.1 < 2 ^ 64) (p.0 == q.0) _ _ (λ u. h)
    (λ f. by_test (λ (r : ℕ × ℕ). r.1 < 2 ^ 64) (p.1 == q.0) _ _ (λ u. omega arith) (λ g. h)))
    (λ f. h)

above_left : (p q : ℕ × ℕ) → p.1 < 2 ^ 64 → q.1 < 2 ^ 64 → Left (above p q)
above_left p q h k = both_left (max p.0 (q.0 + 1), p.1) (q.0, min q.1 (p.1 - 1)) h (omega arith)

at_least_left : (p q : ℕ × ℕ) → p.1 < 2 ^ 64 → q.1 < 2 ^ 64 → Left (at_least p q)
at_least_left p q h k = both_left (max p.0 q.0, p.1) (q.0, min q.1 p.1) h (omega arith)

edge_left : (c : Condition) (p q : ℕ × ℕ) → p.0 ≤ p.1 → q.0 ≤ q.1 → p.1 < 2 ^ 64 → q.1 < 2 ^ 64 → Left (edge c p q)
edge_left Equal p q l m h k = both_left (max p.0 q.0, min p.1 q.1) (max p.0 q.0, min p.1 q.1) (omega arith) (omega arith)
edge_left NotEqual p q l m h k = both_left (without p q) (without q p) (without_small p q h) (without_small q p k)
edge_left Above p q l m h k = above_left p q h k
edge_left SignedAbove p q l m h k = above_left p q h k
edge_left AtLeast p q l m h k = at_least_left p q h k
edge_left SignedAtLeast p q l m h k = at_least_left p q h k
edge_left Below p q l m h k = exchanged_left (above q p) (above_left q p k h)
edge_left SignedBelow p q l m h k = exchanged_left (above q p) (above_left q p k h)
edge_left AtMost p q l m h k = exchanged_left (at_least q p) (at_least_left q p k h)
edge_left SignedAtMost p q l m h k = exchanged_left (at_least q p) (at_least_left q p k h)
edge_left AnyBit p q l m h k = record { first = l; second = m; few = h; small = k }

taken_left : (c : Condition) (way : Bool) (p q : ℕ × ℕ) → p.0 ≤ p.1 → q.0 ≤ q.1 → p.1 < 2 ^ 64 → q.1 < 2 ^ 64 → Left (edge_taken c way p q)
taken_left c true p q l m h k = edge_left c p q l m h k
taken_left c false p q l m h k = edge_left (opposite c) p q l m h k

pub refined_left : (w : Width) (c : Condition) (way : Bool) (p q : ℕ × ℕ) → p.0 ≤ p.1 → q.0 ≤ q.1 → p.1 < 2 ^ 64 → q.1 < 2 ^ 64 → Left (refined w c way p q)
unfolding refined
refined_left w c way p q l m h k =
    by_test Left (nat_lt p.1 (edge_limit w c) && nat_lt q.1 (edge_limit w c)) _ _
    (λ t. taken_left c way p q l m h k) (λ f. record { first = l; second = m; few = h; small = k })
