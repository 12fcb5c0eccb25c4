-- The rows of operations on one range.
use Rattle.std.proofs.Common.{◌≡◌, ◌∙◌, ℕ, zero, suc, ◌-◌, ◌*◌, ◌%◌, ◌^◌, ◌<◌, ◌≤◌, List, [], ◌∷◌, length, true, ap, arith}
use Rattle.std.specs.Prelude.{◌==◌, nat_lt, reverse}
use Rattle.std.specs.Int.{byte_at}
use Rattle.std.specs.Int.Signed.{mag}
use Rattle.std.specs.List.{AllByRecursion}
use Rattle.std.proofs.lemmas.Bool.{ltb-true, eqb-true}
use Rattle.std.proofs.lemmas.Bool.Decides.{nat_tests}
use Rattle.std.proofs.lemmas.Nat.{mod_below}
use Rattle.std.proofs.Math.Nat.{mod-eq_of_lt, pow-succ'}
use Rattle.word.specs.declared.Width.{Width}
use Rattle.word.specs.declared.Width.TheVariants.{W32, W64}
use Rattle.word.specs.declared.Narrow.{Narrow}
use Rattle.word.specs.declared.Narrow.TheVariants as narrow
use Rattle.word.specs.declared.SwapSize.{SwapSize}
use Rattle.word.specs.declared.SwapSize.TheVariants as swap
use Rattle.word.specs.declared.ByteOrder.{ByteOrder}
use Rattle.word.specs.declared.ByteOrder.TheVariants.{Little, Big, Reversed}
use Rattle.word.specs.Arithmetic.{bits_of, taken, negated, signed_part, sign_extended, swapped, swapped_bytes}
use Rattle.word.specs.Bytes.{little_bytes, little_number}
use Rattle.range.specs.Interval.{IsIn}
use Rattle.range.specs.Table.{low, negated_used, negations, extended_used, extensions, part_bits, in_order, swaps}
use Rattle.range.proofs.Extending.{extended_of_used, extended_small}
use Rattle.range.proofs.RangeRows.{Holds, by_test, whole_holds}
use Rattle.range.proofs.SignedRows.{unsigned_below, some_word}
use Rattle.range.proofs.RangeTable.{low_holds, taken_same}

-- Proves what the only number of an interval is.
only : (n : ℕ) (p : ℕ × ℕ) (x : ℕ) → Holds n p x → (p.0 == p.1) ≡ true → p.0 ≡ x
only n p x h t = let e : p.0 ≡ p.1 = eqb-true p.0 p.1 t in omega (arith, h.0.0, h.0.1)

one_holds : (n z m : ℕ) → z ≡ m → m < n → Holds n (z, z) m
one_holds n z m e lt = ((omega arith, omega arith), omega arith)

-- ---- negation

negated_below : (w : Width) (x : ℕ) → negated w x < 2 ^ bits_of w
negated_below w x = mod_below (2 ^ bits_of w - taken w x) (2 ^ bits_of w) (some_word w)

used_negated : (w : Width) (p : ℕ × ℕ) (x : ℕ) → Holds (2 ^ bits_of w) p (taken w x) → Holds (2 ^ bits_of w) (negated_used w p) (negated w x)
unfolding negated_used
used_negated w p x h =
    by_test (λ r. Holds (2 ^ bits_of w) r (negated w x)) (p.0 == p.1) _ _
    (λ t. let e : p.0 ≡ taken w x = only (2 ^ bits_of w) p (taken w x) h t in
    let a : taken w p.0 ≡ taken w x = taken_same w p.0 (omega (arith, h.0.1, h.1, e)) ∙ e in
    one_holds (2 ^ bits_of w) (negated w p.0) (negated w x) (ap (λ (m : ℕ). (2 ^ bits_of w - m) % 2 ^ bits_of w) a) (negated_below w x))
    (λ f. whole_holds (2 ^ bits_of w) (negated w x) (negated_below w x))

pub negations_hold : (w : Width) (la ha x : ℕ) → ha < 2 ^ 64 → IsIn la ha x → Holds (2 ^ bits_of w) (negations w la ha) (negated w x)
negations_hold w la ha x k p = used_negated w (low w la ha) x (low_holds w la ha x k p)

-- ---- sign extension

part_mag : (part : Narrow) (a : ℕ) → mag (signed_part part a) < 2 ^ 32
part_mag narrow.Byte a = grind (arith, nat_tests)
part_mag narrow.Half a = grind (arith, nat_tests)
part_mag narrow.Word a = grind (arith, nat_tests)

wide_part : (w : Width) (m : ℕ) → m < 2 ^ 32 → m < 2 ^ bits_of w
wide_part W32 m h = h
wide_part W64 m h = omega arith

extended_below : (w : Width) (part : Narrow) (x : ℕ) → sign_extended w part x < 2 ^ bits_of w
extended_below w part x = unsigned_below w (signed_part part x) (wide_part w (mag (signed_part part x)) (part_mag part x))

pub used_extended : (w : Width) (part : Narrow) (p : ℕ × ℕ) (x : ℕ) → Holds (2 ^ bits_of w) p (taken w x) → Holds (2 ^ bits_of w) (extended_used w part p) (sign_extended w part x)
unfolding extended_used
used_extended w part p x h =
    by_test (λ r. Holds (2 ^ bits_of w) r (sign_extended w part x)) (p.0 == p.1) _ _
    (λ t. let e : p.0 ≡ taken w x = only (2 ^ bits_of w) p (taken w x) h t in
    one_holds (2 ^ bits_of w) (sign_extended w part p.0) (sign_extended w part x) (ap (λ (m : ℕ). sign_extended w part m) e ∙ extended_of_used w part x) (extended_below w part x))
    (λ f. by_test (λ r. Holds (2 ^ bits_of w) r (sign_extended w part x)) (nat_lt p.1 (2 ^ (part_bits part - 1))) _ _
    (λ t. let l : p.1 < 2 ^ (part_bits part - 1) = ltb-true p.1 (2 ^ (part_bits part - 1)) t in
    rw (extended_small w part x (omega (arith, h.0.1, l))) h)
    (λ g. whole_holds (2 ^ bits_of w) (sign_extended w part x) (extended_below w part x)))

pub extensions_hold : (w : Width) (part : Narrow) (la ha x : ℕ) → ha < 2 ^ 64 → IsIn la ha x → Holds (2 ^ bits_of w) (extensions w part la ha) (sign_extended w part x)
extensions_hold w part la ha x k p = used_extended w part (low w la ha) x (low_holds w la ha x k p)

-- ---- byte order

byte_fits : (i n : ℕ) → byte_at i n < 256
byte_fits zero n = omega arith
byte_fits (suc i) n = omega arith

spelled : (bytes : List ℕ) → AllByRecursion (λ b. b < 256) bytes → little_number bytes < 256 ^ length bytes
spelled [] all = omega arith
spelled (b ∷ bytes) all =
    let less : little_number bytes < 256 ^ length bytes = spelled bytes all.1 in
    let small : b < 256 = all.0 in
    let power : 256 ^ suc (length bytes) ≡ 256 * 256 ^ length bytes = pow-succ' 256 (length bytes) in
    omega arith

reversed_below : (s : SwapSize) (a : ℕ) → little_number (reverse (little_bytes (swapped_bytes s) a)) < 256 ^ swapped_bytes s
reversed_below swap.Half a = spelled (byte_at 1 a ∷ byte_at 0 a ∷ []) (byte_fits 1 a, (byte_fits 0 a, tt))
reversed_below swap.Word a = spelled (byte_at 3 a ∷ byte_at 2 a ∷ byte_at 1 a ∷ byte_at 0 a ∷ []) (byte_fits 3 a, (byte_fits 2 a, (byte_fits 1 a, (byte_fits 0 a, tt))))
reversed_below swap.Double a =
    spelled (byte_at 7 a ∷ byte_at 6 a ∷ byte_at 5 a ∷ byte_at 4 a ∷ byte_at 3 a ∷ byte_at 2 a ∷ byte_at 1 a ∷ byte_at 0 a ∷ [])
    (byte_fits 7 a, (byte_fits 6 a, (byte_fits 5 a, (byte_fits 4 a, (byte_fits 3 a, (byte_fits 2 a, (byte_fits 1 a, (byte_fits 0 a, tt))))))))

some_bytes : (s : SwapSize) → (0 < 256 ^ swapped_bytes s) × (256 ^ swapped_bytes s ≤ 2 ^ 64)
some_bytes swap.Half = (omega arith, omega arith)
some_bytes swap.Word = (omega arith, omega arith)
some_bytes swap.Double = (omega arith, omega arith)

swapped_below : (order : ByteOrder) (s : SwapSize) (a : ℕ) → swapped order s a < 256 ^ swapped_bytes s
swapped_below Little s a = mod_below a (256 ^ swapped_bytes s) (some_bytes s).0
swapped_below Big s a = reversed_below s a
swapped_below Reversed s a = reversed_below s a

wider : (n m : ℕ) (p : ℕ × ℕ) (z : ℕ) → n ≤ m → Holds n p z → Holds m p z
wider n m p z le h = (h.0, omega (arith, h.1))

in_order_holds : (order : ByteOrder) (s : SwapSize) (la ha x : ℕ) → IsIn la ha x → Holds (256 ^ swapped_bytes s) (in_order order s la ha) (swapped order s x)
in_order_holds Little s la ha x p =
    by_test (λ r. Holds (256 ^ swapped_bytes s) r (x % 256 ^ swapped_bytes s)) (nat_lt ha (256 ^ swapped_bytes s)) _ _
    (λ t. let h : ha < 256 ^ swapped_bytes s = ltb-true ha (256 ^ swapped_bytes s) t in
    let e : x % 256 ^ swapped_bytes s ≡ x = mod-eq_of_lt (omega (arith, p.1)) in rw e (p, h))
    (λ f. whole_holds (256 ^ swapped_bytes s) (x % 256 ^ swapped_bytes s) (swapped_below Little s x))
in_order_holds Big s la ha x p = whole_holds (256 ^ swapped_bytes s) _ (swapped_below Big s x)
in_order_holds Reversed s la ha x p = whole_holds (256 ^ swapped_bytes s) _ (swapped_below Reversed s x)

pub swaps_hold : (order : ByteOrder) (s : SwapSize) (la ha x : ℕ) → IsIn la ha x → Holds (2 ^ 64) (swaps order s la ha) (swapped order s x)
swaps_hold order s la ha x p =
    wider (256 ^ swapped_bytes s) (2 ^ 64) (swaps order s la ha) (swapped order s x) (some_bytes s).1
    (by_test (λ r. Holds (256 ^ swapped_bytes s) r (swapped order s x)) (la == ha) _ _
    (λ t. let e : la ≡ ha = eqb-true la ha t in
    let same : la ≡ x = omega (arith, p.0, p.1) in
    one_holds (256 ^ swapped_bytes s) (swapped order s la) (swapped order s x) (ap (λ (m : ℕ). swapped order s m) same) (swapped_below order s x))
    (λ f. in_order_holds order s la ha x p))
