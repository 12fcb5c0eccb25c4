-- The table of ranges: the interval of each operation contains its result for any two numbers.
use Rattle.std.proofs.Common.{◌≡◌, ◌∙◌, ℕ, ◌/◌, ◌%◌, ◌^◌, ◌<◌, ◌≤◌, refl, ap₂, arith}
use Rattle.std.specs.Prelude.{◌==◌, ◌&&◌, nat_lt}
use Rattle.std.proofs.lemmas.Bool.{ltb-true, eqb-true, and_parts}
use Rattle.std.proofs.Math.Nat.{mod-eq_of_lt}
use Rattle.word.specs.declared.Width.{Width}
use Rattle.word.specs.declared.Width.TheVariants.{W32, W64}
use Rattle.word.specs.declared.Operation.{Operation}
use Rattle.word.specs.declared.Operation.TheVariants.{Add, Sub, Mul, Div, SignedDiv, Or, And, ShiftLeft, ShiftRight, Mod, SignedMod, Xor, Move, ArithmeticShiftRight}
use Rattle.word.specs.Arithmetic.{bits_of, taken, operated, arithmetic}
use Rattle.range.specs.Interval.{IsIn}
use Rattle.range.specs.Table.{row, low, of_used, table}
use Rattle.range.proofs.RangeRows.{Holds, by_test, sums_hold, differences_hold, products_hold, quotients_hold, remainders_hold, common_hold, joined_hold, differing_hold, left_shifts_hold, right_shifts_hold}
use Rattle.range.proofs.SignedRows.{signed_quotients_hold, signed_remainders_hold, signed_shifts_hold, some_word}

few_bits : (w : Width) → bits_of w ≤ 64
few_bits W32 = omega arith
few_bits W64 = omega arith

pub row_holds : (w : Width) (operation : Operation) (la ha lb hb x y : ℕ) → ha < 2 ^ bits_of w → hb < 2 ^ bits_of w → IsIn la ha x → IsIn lb hb y →
    Holds (2 ^ bits_of w) (row w operation la ha lb hb) (operated w operation x y)
row_holds w Add la ha lb hb x y k l p q = sums_hold (2 ^ bits_of w) la ha lb hb x y (some_word w) k l p q
row_holds w Sub la ha lb hb x y k l p q = differences_hold (2 ^ bits_of w) la ha lb hb x y (some_word w) k l p q
row_holds w Mul la ha lb hb x y k l p q = products_hold (2 ^ bits_of w) la ha lb hb x y (some_word w) p q
row_holds w Div la ha lb hb x y k l p q = quotients_hold (2 ^ bits_of w) la ha lb hb x y k p q
row_holds w SignedDiv la ha lb hb x y k l p q = signed_quotients_hold w la ha lb hb x y k l p q
row_holds w Or la ha lb hb x y k l p q = joined_hold (bits_of w) la ha lb hb x y (few_bits w) k l p q
row_holds w And la ha lb hb x y k l p q = common_hold (2 ^ bits_of w) la ha lb hb x y k p q
row_holds w ShiftLeft la ha lb hb x y k l p q = left_shifts_hold (2 ^ bits_of w) (bits_of w) la ha lb hb x y (some_word w) p q
row_holds w ShiftRight la ha lb hb x y k l p q = right_shifts_hold (2 ^ bits_of w) (bits_of w) la ha lb hb x y k p q
row_holds w Mod la ha lb hb x y k l p q = remainders_hold (2 ^ bits_of w) la ha lb hb x y k p q
row_holds w SignedMod la ha lb hb x y k l p q = signed_remainders_hold w la ha lb hb x y k l p q
row_holds w Xor la ha lb hb x y k l p q = differing_hold (bits_of w) la ha lb hb x y (few_bits w) k l p q
row_holds w Move la ha lb hb x y k l p q = (q, l)
row_holds w ArithmeticShiftRight la ha lb hb x y k l p q = signed_shifts_hold w la ha lb hb x y k p q

pub low_holds : (w : Width) (la ha x : ℕ) → ha < 2 ^ 64 → IsIn la ha x → Holds (2 ^ bits_of w) (low w la ha) (taken w x)
unfolding low
low_holds W64 la ha x k p = (p, k)
low_holds W32 la ha x k p =
    by_test (λ r. Holds (2 ^ 32) r (x % 2 ^ 32)) (nat_lt ha (2 ^ 32)) _ _
    (λ t. let h : ha < 2 ^ 32 = ltb-true ha (2 ^ 32) t in
    let e : x % 2 ^ 32 ≡ x = mod-eq_of_lt (omega (arith, p.1)) in rw e (p, h))
    (λ f. by_test (λ r. Holds (2 ^ 32) r (x % 2 ^ 32)) (la / 2 ^ 32 == ha / 2 ^ 32) _ _
    (λ t. let e : la / 2 ^ 32 ≡ ha / 2 ^ 32 = eqb-true (la / 2 ^ 32) (ha / 2 ^ 32) t in
    ((omega (arith, p.0, p.1), omega (arith, p.0, p.1)), omega arith))
    (λ g. ((omega arith, omega arith), omega arith)))

pub taken_same : (w : Width) (x : ℕ) → x < 2 ^ bits_of w → taken w x ≡ x
taken_same W32 x h = mod-eq_of_lt h
taken_same W64 x h = refl

-- Proves the claim for numbers of the width, where two single numbers give the exact result.
used_holds : (w : Width) (operation : Operation) (p q : ℕ × ℕ) (x y : ℕ) → Holds (2 ^ bits_of w) p x → Holds (2 ^ bits_of w) q y →
    Holds (2 ^ bits_of w) (of_used w operation p q) (operated w operation x y)
unfolding of_used
used_holds w operation p q x y h k =
    let there = row_holds w operation p.0 p.1 q.0 q.1 x y h.1 k.1 h.0 k.0 in
    by_test (λ r. Holds (2 ^ bits_of w) r (operated w operation x y)) ((p.0 == p.1) && (q.0 == q.1)) _ _
    (λ t. let parts = and_parts (p.0 == p.1) (q.0 == q.1) t in
    let d : p.0 ≡ p.1 = eqb-true p.0 p.1 parts.0 in
    let e : q.0 ≡ q.1 = eqb-true q.0 q.1 parts.1 in
    let a : taken w p.0 ≡ x = taken_same w p.0 (omega (arith, h.1)) ∙ omega (arith, h.0.0, h.0.1) in
    let b : taken w q.0 ≡ y = taken_same w q.0 (omega (arith, k.1)) ∙ omega (arith, k.0.0, k.0.1) in
    let same : arithmetic w operation p.0 q.0 ≡ operated w operation x y = ap₂ (λ (m n : ℕ). operated w operation m n) a b in
    let least = there.0.0 in
    let most = there.0.1 in
    let below = there.1 in
    ((omega arith, omega arith), omega arith))
    (λ f. there)

-- Proves the claim for two intervals of words.
pub table_holds : (w : Width) (operation : Operation) (la ha lb hb x y : ℕ) → ha < 2 ^ 64 → hb < 2 ^ 64 → IsIn la ha x → IsIn lb hb y →
    Holds (2 ^ bits_of w) (table w operation la ha lb hb) (arithmetic w operation x y)
table_holds w operation la ha lb hb x y k l p q =
    used_holds w operation (low w la ha) (low w lb hb) (taken w x) (taken w y) (low_holds w la ha x k p) (low_holds w lb hb y l q)
