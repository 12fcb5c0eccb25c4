-- The set for an operation contains each result, and is well-formed.
use Rattle.std.proofs.Common.{◌≡◌, ℕ, ◌-◌, ◌^◌, ◌<◌, ◌≤◌, min, max, Bool, true, false, refl, Option, Some, None, IfSome, subst, arith}
use Rattle.std.specs.Prelude.{◌==◌, nat_le, bit_or, IsSomeAnd}
use Rattle.std.proofs.lemmas.Bool.{eqb-true, eq-eqb, ne_eqb, leb-true, leb-false, le-leb}
use Rattle.word.specs.declared.Width.{Width}
use Rattle.word.specs.declared.Width.TheVariants.{W32, W64}
use Rattle.word.specs.declared.Operation.{Operation}
use Rattle.word.specs.declared.Condition.{Condition}
use Rattle.word.specs.declared.Narrow.{Narrow}
use Rattle.word.specs.declared.SwapSize.{SwapSize}
use Rattle.word.specs.declared.ByteOrder.{ByteOrder}
use Rattle.word.specs.Arithmetic.{bits_of, taken, arithmetic, negated, sign_extended, swapped, compared}
use Rattle.range.specs.Interval.{IsIn}
use Rattle.range.specs.Table as range
use Rattle.range.specs.Edges.{Pair, tells, is_refined, HoldBoth}
use Rattle.range.specs.Edges as edge
use Rattle.bits.specs.Known.{HasBits, has_bits, unknown}
use Rattle.bits.specs.Known as known
use Rattle.bits.proofs.Laws.{masked_same, least_below, greatest_above}
use Rattle.absval.specs.declared.number_set.NumberSet.{NumberSet}
use Rattle.absval.specs.NumberSets.{Has, HaveBoth, single, within, any, joined, reduced, reduced_one, reduced_ends, settled, settled_by, table, copies, negations, extensions, swaps, both, reduced_both, refined}
use Rattle.range.proofs.RangeRows.{Holds, by_test}
use Rattle.range.proofs.RangeTable.{table_holds, low_holds}
use Rattle.range.proofs.RangeUnary.{negations_hold, extensions_hold, swaps_hold}
use Rattle.range.proofs.RangeEdges.{Left, refined_holds, refined_left}
use Rattle.bits.proofs.Laws.{unknown_has}
use Rattle.bits.proofs.BitRows.{AreBits, single_bits, single_has, unknown_bits, used_bits, used_has, joined_bits, left_has, right_has, table_bits, table_has}
use Rattle.std.proofs.lemmas.Bool.{and_parts}

-- A range of 64-bit numbers, and known bits.
pub record IsSet (n : NumberSet) : Type 0 where
  pub ordered : n.range.0 ≤ n.range.1
  pub words : n.range.1 < 2 ^ 64
  pub bits : AreBits n.bits

pub single_set : (n : ℕ) → n < 2 ^ 64 → IsSet (single n)
single_set n h = record { ordered = omega arith; words = h; bits = single_bits n h }

pub single_of : (n : ℕ) → n < 2 ^ 64 → Has (single n) n
single_of n h = record { range = (omega arith, omega arith); bits = single_has n h }

pub within_set : (p : ℕ × ℕ) → p.0 ≤ p.1 → p.1 < 2 ^ 64 → IsSet (within p)
within_set p le h = record { ordered = le; words = h; bits = unknown_bits W64 }

pub within_has : (p : ℕ × ℕ) (x : ℕ) → p.1 < 2 ^ 64 → IsIn p.0 p.1 x → Has (within p) x
within_has p x h k = record { range = k; bits = unknown_has W64 x (omega (arith, k.1)) }

pub any_set : IsSet any
any_set = within_set (0, 2 ^ 64 - 1) (omega arith) (omega arith)

pub any_has : (x : ℕ) → x < 2 ^ 64 → Has any x
any_has x h = within_has (0, 2 ^ 64 - 1) x (omega arith) (omega arith, omega arith)

-- ---- joins

pub joined_set : (a b : NumberSet) → IsSet a → IsSet b → IsSet (joined a b)
joined_set a b h k =
    let l = h.ordered in
    let m = h.words in
    let n = k.words in
    record { ordered = omega arith; words = omega arith; bits = joined_bits a.bits b.bits h.bits k.bits }

pub left_of : (a b : NumberSet) (x : ℕ) → IsSet a → IsSet b → Has a x → Has (joined a b) x
left_of a b x h k p = record { range = (omega (arith, p.range.0), omega (arith, p.range.1)); bits = left_has a.bits b.bits x h.bits k.bits p.bits }

pub right_of : (a b : NumberSet) (x : ℕ) → IsSet a → IsSet b → Has b x → Has (joined a b) x
right_of a b x h k p = record { range = (omega (arith, p.range.0), omega (arith, p.range.1)); bits = right_has a.bits b.bits x h.bits k.bits p.bits }

-- ---- a range and known bits that narrow each other

abbrev SomeHas : Option NumberSet → ℕ → Type 0
SomeHas o x = IsSomeAnd o (λ n. Has n x)

reduced_has : (p b : ℕ × ℕ) (x : ℕ) → AreBits b → IsIn p.0 p.1 x → HasBits b x → SomeHas (reduced p b) x
reduced_has p b x bits h k =
    by_test (λ (o : Option NumberSet). SomeHas o x) (p.0 == p.1) (reduced_one p b) (reduced_ends p b)
    (λ t. let one : p.0 ≡ p.1 = eqb-true p.0 p.1 t in
    let same : x ≡ p.0 = omega (arith, h.0, h.1) in
    by_test (λ (o : Option NumberSet). SomeHas o x) (has_bits b p.0) _ _
    (λ u. record { range = h; bits = subst (λ (n : ℕ). HasBits (known.single n) x) same (single_has x k.word) })
    (λ f. absurd (let e : has_bits b p.0 ≡ true = subst (λ (n : ℕ). has_bits b n ≡ true) same (eq-eqb (bit_or x b.0) (bit_or b.1 b.0) (masked_same b.0 b.1 x k)) in cc)))
    (λ f. let low : b.1 ≤ x = least_below b.0 b.1 x bits.apart k in
    let high : x ≤ bit_or b.1 b.0 = greatest_above b.0 b.1 x k in
    by_test (λ (o : Option NumberSet). SomeHas o x) (nat_le (max p.0 b.1) (min p.1 (bit_or b.1 b.0))) _ _
    (λ t. record { range = (omega (arith, h.0), omega (arith, h.1)); bits = k })
    (λ g. absurd (let l = leb-false (max p.0 b.1) (min p.1 (bit_or b.1 b.0)) g in omega (arith, h.0, h.1))))

reduced_set : (p b : ℕ × ℕ) → AreBits b → p.0 ≤ p.1 → p.1 < 2 ^ 64 → IfSome (reduced p b) IsSet
reduced_set p b bits le h =
    by_test (λ (o : Option NumberSet). IfSome o IsSet) (p.0 == p.1) (reduced_one p b) (reduced_ends p b)
    (λ t. by_test (λ (o : Option NumberSet). IfSome o IsSet) (has_bits b p.0) _ _
    (λ u. record { ordered = le; words = h; bits = single_bits p.0 (omega arith) }) (λ f. tt))
    (λ f. by_test (λ (o : Option NumberSet). IfSome o IsSet) (nat_le (max p.0 b.1) (min p.1 (bit_or b.1 b.0))) _ _
    (λ t. record { ordered = leb-true (max p.0 b.1) (min p.1 (bit_or b.1 b.0)) t; words = omega arith; bits = bits }) (λ g. tt))

settled_has : (p b : ℕ × ℕ) (x : ℕ) → AreBits b → IsIn p.0 p.1 x → HasBits b x → Has (settled p b) x
unfolding settled
settled_has p b x bits h k = by_answer (reduced p b) (reduced_has p b x bits h k)
  where
    by_answer : (o : Option NumberSet) → SomeHas o x → Has (settled_by p o) x
    by_answer None e = absurd e
    by_answer (Some n) e = e

settled_set : (p b : ℕ × ℕ) → AreBits b → p.0 ≤ p.1 → p.1 < 2 ^ 64 → IsSet (settled p b)
unfolding settled
settled_set p b bits le h = by_answer (reduced p b) (reduced_set p b bits le h)
  where
    by_answer : (o : Option NumberSet) → IfSome o IsSet → IsSet (settled_by p o)
    by_answer None e = within_set p le h
    by_answer (Some n) e = e

-- ---- operations

-- A range of a width and the unknown bits of this width do not contradict each other: if it has one number, all bits
-- are known.
one_number : (w : Width) (n : ℕ) → n < 2 ^ bits_of w → settled (n, n) (unknown w) ≡ single n
unfolding settled
one_number w n h =
    let t : (n == n) ≡ true = eq-eqb n n refl in
    let u : has_bits (unknown w) n ≡ true = eq-eqb (bit_or n (2 ^ bits_of w - 1)) (bit_or 0 (2 ^ bits_of w - 1)) (masked_same (2 ^ bits_of w - 1) 0 n (unknown_has w n h)) in
    rw (t, u) refl

pub one_settled : (w : Width) (p : ℕ × ℕ) → p.0 ≡ p.1 → p.1 < 2 ^ bits_of w → settled p (unknown w) ≡ single p.0
one_settled w p e h = subst (λ (n : ℕ). settled (p.0, n) (unknown w) ≡ single p.0) e (one_number w p.0 (omega (arith, e, h)))

greatest_unknown : (w : Width) → bit_or 0 (2 ^ bits_of w - 1) ≡ 2 ^ bits_of w - 1
greatest_unknown W32 = refl
greatest_unknown W64 = refl

-- If it has several numbers, its ends are unchanged.
pub ends_settled : (w : Width) (p : ℕ × ℕ) → (p.0 ≡ p.1 → ⊥) → p.0 ≤ p.1 → p.1 < 2 ^ bits_of w → settled p (unknown w) ≡ record { range = p; bits = unknown w }
unfolding settled
ends_settled w p ne le h =
    let f : (p.0 == p.1) ≡ false = ne_eqb p.0 p.1 ne in
    let e = greatest_unknown w in
    let low : max p.0 0 ≡ p.0 = omega arith in
    let high : min p.1 (2 ^ bits_of w - 1) ≡ p.1 = omega (arith, h) in
    let t : nat_le p.0 p.1 ≡ true = le-leb p.0 p.1 le in
    rw (f, e, low, high, t) refl

word_of : (w : Width) (n : ℕ) → n < 2 ^ bits_of w → n < 2 ^ 64
word_of W32 n h = omega arith
word_of W64 n h = h

-- A range with at least one number is one of 64-bit numbers.
held_set : (w : Width) (p b : ℕ × ℕ) (z : ℕ) → AreBits b → Holds (2 ^ bits_of w) p z → IsSet (settled p b)
held_set w p b z bits h = settled_set p b bits (omega (arith, h.0.0, h.0.1)) (word_of w p.1 h.1)

below_of : (n : ℕ) (p : ℕ × ℕ) (z : ℕ) → Holds n p z → z < n
below_of n p z h = omega (arith, h.0.1, h.1)

least_in : (n : NumberSet) → IsSet n → IsIn n.range.0 n.range.1 n.range.0
least_in n h = (omega arith, h.ordered)

pub table_set : (w : Width) (operation : Operation) (a b : NumberSet) → IsSet a → IsSet b → IsSet (table w operation a b)
table_set w operation a b h k =
    held_set w (range.table w operation a.range.0 a.range.1 b.range.0 b.range.1) (known.table w operation a.bits b.bits) (arithmetic w operation a.range.0 b.range.0)
    (table_bits w operation a.bits b.bits h.bits k.bits)
    (table_holds w operation a.range.0 a.range.1 b.range.0 b.range.1 a.range.0 b.range.0 h.words k.words (least_in a h) (least_in b k))

pub table_of : (w : Width) (operation : Operation) (a b : NumberSet) (x y : ℕ) → IsSet a → IsSet b → Has a x → Has b y → Has (table w operation a b) (arithmetic w operation x y)
table_of w operation a b x y h k p q =
    let there = table_holds w operation a.range.0 a.range.1 b.range.0 b.range.1 x y h.words k.words p.range q.range in
    settled_has (range.table w operation a.range.0 a.range.1 b.range.0 b.range.1) (known.table w operation a.bits b.bits) (arithmetic w operation x y)
    (table_bits w operation a.bits b.bits h.bits k.bits) there.0
    (table_has w operation a.bits b.bits x y h.bits k.bits p.bits q.bits (below_of (2 ^ bits_of w) (range.table w operation a.range.0 a.range.1 b.range.0 b.range.1) (arithmetic w operation x y) there))

pub copies_set : (w : Width) (a : NumberSet) → IsSet a → IsSet (copies w a)
copies_set w a h =
    held_set w (range.low w a.range.0 a.range.1) (known.used w a.bits) (taken w a.range.0) (used_bits w a.bits h.bits)
    (low_holds w a.range.0 a.range.1 a.range.0 h.words (least_in a h))

pub copies_of : (w : Width) (a : NumberSet) (x : ℕ) → IsSet a → Has a x → Has (copies w a) (taken w x)
copies_of w a x h p =
    settled_has (range.low w a.range.0 a.range.1) (known.used w a.bits) (taken w x) (used_bits w a.bits h.bits)
    (low_holds w a.range.0 a.range.1 x h.words p.range).0 (used_has w a.bits x p.bits)

-- The same whatever bits a result of the width has.
free_has : (w : Width) (p : ℕ × ℕ) (z : ℕ) → Holds (2 ^ bits_of w) p z → Has (settled p (unknown w)) z
free_has w p z h = settled_has p (unknown w) z (unknown_bits w) h.0 (unknown_has w z (below_of (2 ^ bits_of w) p z h))

pub negations_set : (w : Width) (a : NumberSet) → IsSet a → IsSet (negations w a)
negations_set w a h =
    held_set w (range.negations w a.range.0 a.range.1) (unknown w) (negated w a.range.0) (unknown_bits w) (negations_hold w a.range.0 a.range.1 a.range.0 h.words (least_in a h))

pub negations_of : (w : Width) (a : NumberSet) (x : ℕ) → IsSet a → Has a x → Has (negations w a) (negated w x)
negations_of w a x h p = free_has w (range.negations w a.range.0 a.range.1) (negated w x) (negations_hold w a.range.0 a.range.1 x h.words p.range)

pub extensions_set : (w : Width) (part : Narrow) (a : NumberSet) → IsSet a → IsSet (extensions w part a)
extensions_set w part a h =
    held_set w (range.extensions w part a.range.0 a.range.1) (unknown w) (sign_extended w part a.range.0) (unknown_bits w)
    (extensions_hold w part a.range.0 a.range.1 a.range.0 h.words (least_in a h))

pub extensions_of : (w : Width) (part : Narrow) (a : NumberSet) (x : ℕ) → IsSet a → Has a x → Has (extensions w part a) (sign_extended w part x)
extensions_of w part a x h p =
    free_has w (range.extensions w part a.range.0 a.range.1) (sign_extended w part x) (extensions_hold w part a.range.0 a.range.1 x h.words p.range)

pub swaps_set : (order : ByteOrder) (size : SwapSize) (a : NumberSet) → IsSet a → IsSet (swaps order size a)
swaps_set order size a h =
    held_set W64 (range.swaps order size a.range.0 a.range.1) (unknown W64) (swapped order size a.range.0) (unknown_bits W64) (swaps_hold order size a.range.0 a.range.1 a.range.0 (least_in a h))

pub swaps_of : (order : ByteOrder) (size : SwapSize) (a : NumberSet) (x : ℕ) → IsSet a → Has a x → Has (swaps order size a) (swapped order size x)
swaps_of order size a x h p = free_has W64 (range.swaps order size a.range.0 a.range.1) (swapped order size x) (swaps_hold order size a.range.0 a.range.1 x p.range)

-- ---- conditional jumps

abbrev pub AreSets : Option (NumberSet × NumberSet) → Type 0
AreSets None = Unit {0}
AreSets (Some e) = IsSet e.0 × IsSet e.1

both_sets : (a b : Option NumberSet) → IfSome a IsSet → IfSome b IsSet → AreSets (both a b)
both_sets None b h k = tt
both_sets (Some a) None h k = tt
both_sets (Some a) (Some b) h k = (h, k)

both_have : (a b : Option NumberSet) (x y : ℕ) → SomeHas a x → SomeHas b y → HaveBoth (both a b) x y
both_have None b x y h k = absurd h
both_have (Some a) None x y h k = absurd k
both_have (Some a) (Some b) x y h k = (h, k)

left_sets : (b c : ℕ × ℕ) (o : Option Pair) → AreBits b → AreBits c → Left o → AreSets (reduced_both b c o)
left_sets b c None h k l = tt
left_sets b c (Some e) h k l = both_sets (reduced e.0 b) (reduced e.1 c) (reduced_set e.0 b h l.first l.few) (reduced_set e.1 c k l.second l.small)

left_have : (b c : ℕ × ℕ) (o : Option Pair) (x y : ℕ) → AreBits b → AreBits c → HasBits b x → HasBits c y → HoldBoth o x y → HaveBoth (reduced_both b c o) x y
left_have b c None x y h k p q l = absurd l
left_have b c (Some e) x y h k p q l = both_have (reduced e.0 b) (reduced e.1 c) x y (reduced_has e.0 b x h l.0 p) (reduced_has e.1 c y k l.1 q)

pub refined_sets : (w : Width) (c : Condition) (way : Bool) (a b : NumberSet) → IsSet a → IsSet b → AreSets (refined w c way a b)
refined_sets w c way a b h k =
    by_test AreSets (is_refined w c a.range b.range) _ _
    (λ t. left_sets a.bits b.bits (edge.refined w c way a.range b.range) h.bits k.bits (refined_left w c way a.range b.range h.ordered k.ordered h.words k.words))
    (λ f. (h, k))

pub refined_have : (w : Width) (c : Condition) (way : Bool) (a b : NumberSet) (x y : ℕ) → IsSet a → IsSet b → Has a x → Has b y → compared w c x y ≡ way → HaveBoth (refined w c way a b) x y
refined_have w c way a b x y h k p q m =
    by_test (λ (o : Option (NumberSet × NumberSet)). HaveBoth o x y) (is_refined w c a.range b.range) _ _
    (λ t. let told = (and_parts _ (tells c) t).1 in
    left_have a.bits b.bits (edge.refined w c way a.range b.range) x y h.bits k.bits p.bits q.bits (refined_holds w c way a.range b.range x y told p.range q.range m))
    (λ f. (p, q))
