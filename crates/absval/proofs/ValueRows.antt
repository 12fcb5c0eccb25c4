-- What is known of a result is true of it, and there is a result.
use Rattle.std.proofs.Common.{◌≡◌, ◌∙◌, ℕ, ℤ, pos, negsuc, ◌^◌, ◌<◌, ◌≤◌, Bool, true, false, Option, Some, None, Result, Ok, Err, IfSome, refl, sym, subst, arith}
use Rattle.std.specs.Prelude.{◌+ℤ◌, ◌-ℤ◌, ◌≤ℤ◌, ◌&&◌, int_le, nat_lt, nat_le, if◌then◌else◌, option_map, option_and_then}
use Rattle.std.specs.Int.{w64, cast_signed, int_min, int_max}
use Rattle.std.proofs.lemmas.Int.{ints}
use Rattle.std.proofs.lemmas.Bool.{ltb-true, leb-true, and_parts, and_from}
use Rattle.word.specs.declared.Width.{Width}
use Rattle.word.specs.declared.Width.TheVariants.{W32, W64}
use Rattle.word.specs.declared.Operation.{Operation}
use Rattle.word.specs.declared.Operation.TheVariants.{Add, Sub, Mul, Div, SignedDiv, Or, And, ShiftLeft, ShiftRight, Mod, SignedMod, Xor, Move, ArithmeticShiftRight}
use Rattle.word.specs.declared.Narrow.{Narrow}
use Rattle.word.specs.declared.SwapSize.{SwapSize}
use Rattle.word.specs.declared.ByteOrder.{ByteOrder}
use Rattle.word.specs.Arithmetic.{negated, sign_extended, swapped}
use Rattle.range.specs.Interval.{IsIn}
use Rattle.semantics.specs.declared.value.Region.{Region}
use Rattle.semantics.specs.declared.value.Region.TheVariants.{Stack, Context}
use Rattle.semantics.specs.declared.value.Value.{Value}
use Rattle.semantics.specs.declared.value.Value.TheVariants as value
use Rattle.semantics.specs.State.{Cause, PointerUse}
use Rattle.semantics.specs.Memory.{is_same_region}
use Rattle.semantics.specs.Step.{pointed, moved, combined, first_operand, mapped}
use Rattle.absval.specs.declared.number_set.NumberSet.{NumberSet}
use Rattle.absval.specs.NumberSets.{Has, negations, extensions, swaps}
use Rattle.absval.specs.Contains.{Contains, Gives, IsPointerIn}
use Rattle.absval.specs.Limits.{is_near}
use Rattle.absval.specs.Table.{joined, joined_offsets, in_a_row, near, raised, lowered, displaced, shifted, computed, negated_known, extended_known, swapped_known}
use Rattle.absval.specs.Table as known
use Rattle.range.proofs.RangeRows.{by_test}
use Rattle.absval.proofs.SetRows.{IsSet, joined_set, left_of, right_of, table_set, table_of, copies_set, copies_of, negations_set, negations_of, extensions_set, extensions_of, swaps_set, swaps_of}
use Rattle.absval.proofs.Sets.{all_numbers}
use Rattle.absval.specs.declared.value.AbsVal.TheVariants.{Unset, Number, Pointer}
use Rattle.absval.specs.declared.value.AbsVal.{AbsVal}

-- The numbers of the abstract value are a set.
abbrev pub IsWell : AbsVal → Type 0
IsWell Unset = Unit {0}
IsWell (Number numbers) = IsSet numbers
IsWell (Pointer region offsets) = Unit {0}

-- What is known of a result, if the operation is allowed: it is well-formed, and there is a result of which it is true.
abbrev pub Makes : Option AbsVal → Result Value Cause → Type 0
Makes o r = IfSome o (λ e. Gives e r)

abbrev pub MeantIf : Option AbsVal → Type 0
MeantIf o = IfSome o IsWell

-- ---- pointers and numbers

-- Numbers of a range, read as signed.
row_low : (l h m : ℕ) → l ≤ m → m ≤ h → h < 2 ^ 63 → (pos l ≤ℤ cast_signed w64 m) × (cast_signed w64 m ≤ℤ pos h)
row_low l h m p q k = (grind (arith, ints), grind (arith, ints))

row_high : (l h m : ℕ) → l ≤ m → m ≤ h → 2 ^ 63 ≤ l → m < 2 ^ 64 → ((pos l -ℤ pos (2 ^ 64)) ≤ℤ cast_signed w64 m) × (cast_signed w64 m ≤ℤ (pos h -ℤ pos (2 ^ 64)))
row_high l h m p q k f = (grind (arith, ints), grind (arith, ints))

abbrev Between : ℤ × ℤ → ℤ → Type 0
Between by z = (by.0 ≤ℤ z) × (z ≤ℤ by.1)

in_a_row_holds : (n : ℕ × ℕ) (m : ℕ) → IsIn n.0 n.1 m → m < 2 ^ 64 → IfSome (in_a_row n) (λ by. Between by (cast_signed w64 m))
in_a_row_holds n m p f =
    by_test (λ (o : Option (ℤ × ℤ)). IfSome o (λ by. Between by (cast_signed w64 m))) (nat_lt n.1 (2 ^ 63)) _ _
    (λ t. row_low n.0 n.1 m p.0 p.1 (ltb-true n.1 (2 ^ 63) t))
    (λ g. by_test (λ (o : Option (ℤ × ℤ)). IfSome o (λ by. Between by (cast_signed w64 m))) (nat_le (2 ^ 63) n.0) _ _
    (λ t. row_high n.0 n.1 m p.0 p.1 (leb-true (2 ^ 63) n.0 t) f) (λ h. tt))

at_most : (x y : ℤ) → int_le x y ≡ true → x ≤ℤ y
at_most x y h = grind (arith, ints)

tests_most : (x y : ℤ) → x ≤ℤ y → int_le x y ≡ true
tests_most x y h = grind (arith, ints)

abbrev Close : ℤ → Type 0
Close z = (negsuc 65535 ≤ℤ z) × (z ≤ℤ pos 65536)

close_of : (z : ℤ) → is_near z ≡ true → Close z
close_of z t = let parts = and_parts (int_le (negsuc 65535) z) (int_le z (pos 65536)) t in (at_most (negsuc 65535) z parts.0, at_most z (pos 65536) parts.1)

near_of : (z : ℤ) → Close z → is_near z ≡ true
near_of z h = and_from (int_le (negsuc 65535) z) (int_le z (pos 65536)) (tests_most (negsuc 65535) z h.0) (tests_most z (pos 65536) h.1)

if_true : (t : Bool) (a b : Result Value Cause) → t ≡ true → (if t then a else b) ≡ a
if_true true a b e = refl
if_true false a b e = cc

-- A pointer between two offsets within the limit is within the limit.
near_gives : (region other : Region) (o : ℤ × ℤ) (z : ℤ) → other ≡ region → Between o z → IfSome (near o) (λ n. Gives (Pointer region n) (pointed other z))
near_gives region other o z same p =
    by_test (λ (s : Option (ℤ × ℤ)). IfSome s (λ n. Gives (Pointer region n) (pointed other z))) (is_near o.0 && is_near o.1) _ _
    (λ t. let parts = and_parts (is_near o.0) (is_near o.1) t in
    let low = close_of o.0 parts.0 in
    let high = close_of o.1 parts.1 in
    let a = low.0 in
    let b = high.1 in
    let c = p.0 in
    let d = p.1 in
    let here : is_near z ≡ true = near_of z (omega (arith, ints), omega (arith, ints)) in
    subst (λ (r : Result Value Cause). Gives (Pointer region o) r) (sym (if_true (is_near z) (Ok (value.Pointer other z)) (Err PointerUse) here)) (same, p.0, p.1))
    (λ f. tt)

sum_between : (a b c d y z : ℤ) → a ≤ℤ y → y ≤ℤ b → c ≤ℤ z → z ≤ℤ d → ((a +ℤ c) ≤ℤ (y +ℤ z)) × ((y +ℤ z) ≤ℤ (b +ℤ d))
sum_between a b c d y z p q r s = (omega (arith, ints), omega (arith, ints))

difference_between : (a b c d y z : ℤ) → a ≤ℤ y → y ≤ℤ b → c ≤ℤ z → z ≤ℤ d → ((a -ℤ d) ≤ℤ (y -ℤ z)) × ((y -ℤ z) ≤ℤ (b -ℤ c))
difference_between a b c d y z p q r s = (omega (arith, ints), omega (arith, ints))

-- Where the pointer may lead, if it may be moved.
abbrev Goes : Width → Operation → Region → ℤ × ℤ → ℤ × ℤ → Region → ℤ → ℕ → Type 0
Goes w operation region o by other z m = IfSome (displaced w operation o by) (λ n. Gives (Pointer region n) (moved w operation other z m))

displaced_goes : (w : Width) (operation : Operation) (region other : Region) (o by : ℤ × ℤ) (z : ℤ) (m : ℕ) → other ≡ region → Between o z → Between by (cast_signed w64 m) →
    Goes w operation region o by other z m
displaced_goes W64 Add region other o by z m e p q =
    near_gives region other (o.0 +ℤ by.0, o.1 +ℤ by.1) (z +ℤ cast_signed w64 m) e (sum_between o.0 o.1 by.0 by.1 z (cast_signed w64 m) p.0 p.1 q.0 q.1)
displaced_goes W64 Sub region other o by z m e p q =
    near_gives region other (o.0 -ℤ by.1, o.1 -ℤ by.0) (z -ℤ cast_signed w64 m) e (difference_between o.0 o.1 by.0 by.1 z (cast_signed w64 m) p.0 p.1 q.0 q.1)
displaced_goes W64 Mul region other o by z m e p q = tt
displaced_goes W64 Div region other o by z m e p q = tt
displaced_goes W64 SignedDiv region other o by z m e p q = tt
displaced_goes W64 Or region other o by z m e p q = tt
displaced_goes W64 And region other o by z m e p q = tt
displaced_goes W64 ShiftLeft region other o by z m e p q = tt
displaced_goes W64 ShiftRight region other o by z m e p q = tt
displaced_goes W64 Mod region other o by z m e p q = tt
displaced_goes W64 SignedMod region other o by z m e p q = tt
displaced_goes W64 Xor region other o by z m e p q = tt
displaced_goes W64 Move region other o by z m e p q = tt
displaced_goes W64 ArithmeticShiftRight region other o by z m e p q = tt
displaced_goes W32 operation region other o by z m e p q = tt

shifted_makes : (w : Width) (operation : Operation) (region other : Region) (o : ℤ × ℤ) (n : NumberSet) (z : ℤ) (m : ℕ) → other ≡ region → Between o z → Has n m →
    Makes (shifted w operation region o n) (moved w operation other z m)
shifted_makes w operation region other o n z m e p h = by_row (in_a_row n.range) (in_a_row_holds n.range m h.range h.bits.word)
  where
    mapped_makes : (s : Option (ℤ × ℤ)) → IfSome s (λ n. Gives (Pointer region n) (moved w operation other z m)) → Makes (option_map (Pointer region) s) (moved w operation other z m)
    mapped_makes None k = tt
    mapped_makes (Some n) k = k

    by_row : (s : Option (ℤ × ℤ)) → IfSome s (λ by. Between by (cast_signed w64 m)) → Makes (option_map (Pointer region) (option_and_then (displaced w operation o) s)) (moved w operation other z m)
    by_row None k = tt
    by_row (Some by) k = mapped_makes (displaced w operation o by) (displaced_goes w operation region other o by z m e p k)

shifted_meant : (w : Width) (operation : Operation) (region : Region) (o : ℤ × ℤ) (n : NumberSet) → MeantIf (shifted w operation region o n)
shifted_meant w operation region o n = by_offsets (option_and_then (displaced w operation o) (in_a_row n.range))
  where
    by_offsets : (s : Option (ℤ × ℤ)) → MeantIf (option_map (Pointer region) s)
    by_offsets None = tt
    by_offsets (Some n) = tt

-- ---- operations

moved_makes : (w : Width) (b : AbsVal) (y : Value) → IsWell b → Contains b y → Makes (known.moved w b) (combined w Move (value.Number 0) y)
moved_makes w Unset y h p = tt
moved_makes w (Number n) value.Unset h p = absurd p
moved_makes W32 (Number n) (value.Number m) h p = copies_of W32 n m h p
moved_makes W64 (Number n) (value.Number m) h p = copies_of W64 n m h p
moved_makes w (Number n) (value.Pointer region offset) h p = absurd p
moved_makes W32 (Pointer region o) y h p = tt
moved_makes W64 (Pointer region o) value.Unset h p = absurd p
moved_makes W64 (Pointer region o) (value.Number m) h p = absurd p
moved_makes W64 (Pointer region o) (value.Pointer other offset) h p = p

moved_meant : (w : Width) (b : AbsVal) → IsWell b → MeantIf (known.moved w b)
moved_meant w Unset h = tt
moved_meant w (Number n) h = copies_set w n h
moved_meant W32 (Pointer region o) h = tt
moved_meant W64 (Pointer region o) h = tt

combined_makes : (w : Width) (operation : Operation) (a b : AbsVal) (x y : Value) → IsWell a → IsWell b → Contains a x → Contains b y → Makes (known.combined w operation a b) (combined w operation x y)
combined_makes w operation Unset b x y h k p q = tt
combined_makes w operation (Number m) Unset x y h k p q = tt
combined_makes w operation (Number m) (Pointer region o) x y h k p q = tt
combined_makes w operation (Number m) (Number n) value.Unset y h k p q = absurd p
combined_makes w operation (Number m) (Number n) (value.Pointer region offset) y h k p q = absurd p
combined_makes w operation (Number m) (Number n) (value.Number i) value.Unset h k p q = absurd q
combined_makes w operation (Number m) (Number n) (value.Number i) (value.Pointer region offset) h k p q = absurd q
combined_makes w operation (Number m) (Number n) (value.Number i) (value.Number j) h k p q = table_of w operation m n i j h k p q
combined_makes w operation (Pointer region o) Unset x y h k p q = tt
combined_makes w operation (Pointer region o) (Pointer other at) x y h k p q = tt
combined_makes w operation (Pointer region o) (Number n) value.Unset y h k p q = absurd p
combined_makes w operation (Pointer region o) (Number n) (value.Number i) y h k p q = absurd p
combined_makes w operation (Pointer region o) (Number n) (value.Pointer other offset) value.Unset h k p q = absurd q
combined_makes w operation (Pointer region o) (Number n) (value.Pointer other offset) (value.Pointer reg at) h k p q = absurd q
combined_makes w operation (Pointer region o) (Number n) (value.Pointer other offset) (value.Number j) h k p q = shifted_makes w operation region other o n offset j p.0 (p.1, p.2) q

combined_meant : (w : Width) (operation : Operation) (a b : AbsVal) → IsWell a → IsWell b → MeantIf (known.combined w operation a b)
combined_meant w operation Unset b h k = tt
combined_meant w operation (Number m) Unset h k = tt
combined_meant w operation (Number m) (Pointer region o) h k = tt
combined_meant w operation (Number m) (Number n) h k = table_set w operation m n h k
combined_meant w operation (Pointer region o) Unset h k = tt
combined_meant w operation (Pointer region o) (Pointer other at) h k = tt
combined_meant w operation (Pointer region o) (Number n) h k = shifted_meant w operation region o n

pub computed_makes : (w : Width) (operation : Operation) (a b : AbsVal) (x y : Value) → IsWell a → IsWell b → Contains a (first_operand operation x) → Contains b y →
    Makes (computed w operation a b) (combined w operation (first_operand operation x) y)
computed_makes w Move a b x y h k p q = moved_makes w b y k q
computed_makes w Add a b x y h k p q = combined_makes w Add a b x y h k p q
computed_makes w Sub a b x y h k p q = combined_makes w Sub a b x y h k p q
computed_makes w Mul a b x y h k p q = combined_makes w Mul a b x y h k p q
computed_makes w Div a b x y h k p q = combined_makes w Div a b x y h k p q
computed_makes w SignedDiv a b x y h k p q = combined_makes w SignedDiv a b x y h k p q
computed_makes w Or a b x y h k p q = combined_makes w Or a b x y h k p q
computed_makes w And a b x y h k p q = combined_makes w And a b x y h k p q
computed_makes w ShiftLeft a b x y h k p q = combined_makes w ShiftLeft a b x y h k p q
computed_makes w ShiftRight a b x y h k p q = combined_makes w ShiftRight a b x y h k p q
computed_makes w Mod a b x y h k p q = combined_makes w Mod a b x y h k p q
computed_makes w SignedMod a b x y h k p q = combined_makes w SignedMod a b x y h k p q
computed_makes w Xor a b x y h k p q = combined_makes w Xor a b x y h k p q
computed_makes w ArithmeticShiftRight a b x y h k p q = combined_makes w ArithmeticShiftRight a b x y h k p q

pub computed_meant : (w : Width) (operation : Operation) (a b : AbsVal) → IsWell a → IsWell b → MeantIf (computed w operation a b)
computed_meant w Move a b h k = moved_meant w b k
computed_meant w operation a b h k = combined_meant w operation a b h k

-- ---- one number from another

mapped_makes : (f : NumberSet → NumberSet) (g : ℕ → ℕ) (a : AbsVal) (x : Value) → ((n : NumberSet) (i : ℕ) → IsSet n → Has n i → Has (f n) (g i)) → IsWell a → Contains a x →
    Makes (known.mapped f a) (mapped g x)
mapped_makes f g Unset x r h p = tt
mapped_makes f g (Number n) value.Unset r h p = absurd p
mapped_makes f g (Number n) (value.Number i) r h p = r n i h p
mapped_makes f g (Number n) (value.Pointer region offset) r h p = absurd p
mapped_makes f g (Pointer region o) x r h p = tt

mapped_meant : (f : NumberSet → NumberSet) (a : AbsVal) → ((n : NumberSet) → IsSet n → IsSet (f n)) → IsWell a → MeantIf (known.mapped f a)
mapped_meant f Unset r h = tt
mapped_meant f (Number n) r h = r n h
mapped_meant f (Pointer region o) r h = tt

pub negated_makes : (w : Width) (a : AbsVal) (x : Value) → IsWell a → Contains a x → Makes (negated_known w a) (mapped (negated w) x)
negated_makes w a x h p = mapped_makes (negations w) (negated w) a x (negations_of w) h p

pub negated_meant : (w : Width) (a : AbsVal) → IsWell a → MeantIf (negated_known w a)
negated_meant w a h = mapped_meant (negations w) a (negations_set w) h

pub extended_makes : (w : Width) (part : Narrow) (a : AbsVal) (x : Value) → IsWell a → Contains a x → Makes (extended_known w part a) (mapped (sign_extended w part) x)
extended_makes w part a x h p = mapped_makes (extensions w part) (sign_extended w part) a x (extensions_of w part) h p

pub extended_meant : (w : Width) (part : Narrow) (a : AbsVal) → IsWell a → MeantIf (extended_known w part a)
extended_meant w part a h = mapped_meant (extensions w part) a (extensions_set w part) h

pub swapped_makes : (order : ByteOrder) (size : SwapSize) (a : AbsVal) (x : Value) → IsWell a → Contains a x → Makes (swapped_known order size a) (mapped (swapped order size) x)
swapped_makes order size a x h p = mapped_makes (swaps order size) (swapped order size) a x (swaps_of order size) h p

pub swapped_meant : (order : ByteOrder) (size : SwapSize) (a : AbsVal) → IsWell a → MeantIf (swapped_known order size a)
swapped_meant order size a h = mapped_meant (swaps order size) a (swaps_set order size) h

-- ---- where two paths meet

pub same_region : (a b : Region) → is_same_region a b ≡ true → a ≡ b
same_region Stack Stack e = refl
same_region Context Context e = refl
same_region Stack Context e = cc
same_region Context Stack e = cc

least_low : (m n : ℤ) → (int_min m n ≤ℤ m) × (int_min m n ≤ℤ n)
least_low m n = (grind (arith, ints), grind (arith, ints))

most_high : (m n : ℤ) → (m ≤ℤ int_max m n) × (n ≤ℤ int_max m n)
most_high m n = (grind (arith, ints), grind (arith, ints))

wider : (a b c d z : ℤ) → a ≤ℤ b → c ≤ℤ d → b ≤ℤ z → z ≤ℤ c → (a ≤ℤ z) × (z ≤ℤ d)
wider a b c d z p q r s = (omega (arith, ints), omega (arith, ints))

pub joined_meant : (a b : AbsVal) → IsWell a → IsWell b → IsWell (joined a b)
joined_meant Unset b h k = tt
joined_meant (Number m) Unset h k = tt
joined_meant (Number m) (Number n) h k = joined_set m n h k
joined_meant (Number m) (Pointer region o) h k = tt
joined_meant (Pointer region o) Unset h k = tt
joined_meant (Pointer region o) (Number n) h k = tt
joined_meant (Pointer region o) (Pointer other at) h k = by_test IsWell (is_same_region region other) _ _ (λ t. tt) (λ f. tt)

pointers_kept : (region other : Region) (m n : ℤ × ℤ) (v : Value) → region ≡ other → n.0 ≤ℤ m.0 → m.1 ≤ℤ n.1 → IsPointerIn region m.0 m.1 v → IsPointerIn other n.0 n.1 v
pointers_kept region other m n value.Unset e p q h = h
pointers_kept region other m n (value.Number i) e p q h = h
pointers_kept region other m n (value.Pointer reg z) e p q h = let w = wider n.0 m.0 m.1 n.1 z p q h.1 h.2 in (h.0 ∙ e, w.0, w.1)

pub left_stands : (a b : AbsVal) (v : Value) → IsWell a → IsWell b → Contains a v → Contains (joined a b) v
left_stands Unset b v h k p = tt
left_stands (Number m) Unset v h k p = tt
left_stands (Number m) (Number n) v h k p = all_numbers m _ (λ i there. left_of m n i h k there) v p
left_stands (Number m) (Pointer region o) v h k p = tt
left_stands (Pointer region o) Unset v h k p = tt
left_stands (Pointer region o) (Number n) v h k p = tt
left_stands (Pointer region o) (Pointer other at) v h k p =
    by_test (λ (e : AbsVal). Contains e v) (is_same_region region other) _ _
    (λ t. pointers_kept region region o (joined_offsets o at) v refl (least_low o.0 at.0).0 (most_high o.1 at.1).0 p) (λ f. tt)

pub right_stands : (a b : AbsVal) (v : Value) → IsWell a → IsWell b → Contains b v → Contains (joined a b) v
right_stands Unset b v h k p = tt
right_stands (Number m) Unset v h k p = tt
right_stands (Number m) (Number n) v h k p = all_numbers n _ (λ i there. right_of m n i h k there) v p
right_stands (Number m) (Pointer region o) v h k p = tt
right_stands (Pointer region o) Unset v h k p = tt
right_stands (Pointer region o) (Number n) v h k p = tt
right_stands (Pointer region o) (Pointer other at) v h k p =
    by_test (λ (e : AbsVal). Contains e v) (is_same_region region other) _ _
    (λ t. pointers_kept other region at (joined_offsets o at) v (sym (same_region region other t)) (least_low o.0 at.0).1 (most_high o.1 at.1).1 p) (λ f. tt)
