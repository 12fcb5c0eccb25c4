-- The rows of the table of known bits: they hold for the result, and are themselves well-formed.
use Rattle.std.proofs.Common.{◌≡◌, ◌∙◌, ℕ, ◌-◌, ◌^◌, ◌<◌, ◌≤◌, refl, arith}
use Rattle.std.specs.Prelude.{bit_and, bit_or, bit_xor}
use Rattle.std.proofs.lemmas.Nat.{and_comm, and_le_l, and_le_r, or_lt, xor_lt}
use Rattle.word.specs.declared.Width.{Width}
use Rattle.word.specs.declared.Width.TheVariants.{W32, W64}
use Rattle.word.specs.declared.Operation.{Operation}
use Rattle.word.specs.declared.Operation.TheVariants.{Add, Sub, Mul, Div, SignedDiv, Or, And, ShiftLeft, ShiftRight, Mod, SignedMod, Xor, Move, ArithmeticShiftRight}
use Rattle.word.specs.Arithmetic.{bits_of, taken, operated, arithmetic}
use Rattle.bits.specs.Known.{HasBits, less, single, unknown, used, joined, joined_mask, common, either, differing, row, table}
use Rattle.bits.proofs.Laws.{less_lt, less_apart, and_holds, or_holds, xor_holds, joined_lt, joined_left, joined_right, cut_holds, cut_apart, unknown_has}

-- States that a mask and a value are words without a common bit.
pub record AreBits (b : ℕ × ℕ) : Type 0 where
  pub mask : b.0 < 2 ^ 64
  pub value : b.1 < 2 ^ 64
  pub apart : bit_and b.0 b.1 ≡ 0

pub single_bits : (n : ℕ) → n < 2 ^ 64 → AreBits (single n)
single_bits n h = record { mask = omega arith; value = h; apart = let le : bit_and 0 n ≤ 0 = and_le_l 0 n in omega arith }

pub single_has : (n : ℕ) → n < 2 ^ 64 → HasBits (single n) n
single_has n h = record { word = h; same = λ i e. refl }

ones_below : (w : Width) → 2 ^ bits_of w - 1 < 2 ^ 64
ones_below W32 = omega arith
ones_below W64 = omega arith

pub unknown_bits : (w : Width) → AreBits (unknown w)
unknown_bits w = record { mask = ones_below w; value = omega arith; apart = let le : bit_and (2 ^ bits_of w - 1) 0 ≤ 0 = and_le_r (2 ^ bits_of w - 1) 0 in omega arith }

pub used_bits : (w : Width) (b : ℕ × ℕ) → AreBits b → AreBits (used w b)
used_bits W64 b h = h
used_bits W32 b h = record { mask = omega arith; value = omega arith; apart = cut_apart b.0 b.1 h.apart }

pub used_has : (w : Width) (b : ℕ × ℕ) (x : ℕ) → HasBits b x → HasBits (used w b) (taken w x)
used_has W64 b x h = h
used_has W32 b x h = cut_holds b.0 b.1 x h

-- ---- joins

pub joined_bits : (a b : ℕ × ℕ) → AreBits a → AreBits b → AreBits (joined a b)
joined_bits a b h k =
    let m = joined_lt a.0 a.1 b.0 b.1 h.mask h.value k.mask k.value in
    record { mask = m; value = less_lt a.1 (joined_mask a b) h.value; apart = less_apart a.1 (joined_mask a b) h.value m }

pub left_has : (a b : ℕ × ℕ) (x : ℕ) → AreBits a → AreBits b → HasBits a x → HasBits (joined a b) x
left_has a b x h k p = joined_left a.0 a.1 b.0 b.1 x h.mask h.value k.mask k.value p

pub right_has : (a b : ℕ × ℕ) (x : ℕ) → AreBits a → AreBits b → HasBits b x → HasBits (joined a b) x
right_has a b x h k p = joined_right a.0 a.1 b.0 b.1 x h.mask h.value k.mask k.value p

-- ---- operations

less_bits : (a b : ℕ) → a < 2 ^ 64 → b < 2 ^ 64 → AreBits (less a b, b)
less_bits a b h k = record { mask = less_lt a b h; value = k; apart = and_comm (less a b) b ∙ less_apart a b h k }

and_below : (a b : ℕ) → a < 2 ^ 64 → bit_and a b < 2 ^ 64
and_below a b h = omega (arith, and_le_l a b)

common_bits : (a b : ℕ × ℕ) → AreBits a → AreBits b → AreBits (common a b)
common_bits a b h k =
    less_bits (bit_and (bit_or a.1 a.0) (bit_or b.1 b.0)) (bit_and a.1 b.1)
    (and_below (bit_or a.1 a.0) (bit_or b.1 b.0) (or_lt 64 a.1 a.0 h.value h.mask)) (and_below a.1 b.1 h.value)

either_bits : (a b : ℕ × ℕ) → AreBits a → AreBits b → AreBits (either a b)
either_bits a b h k = less_bits (bit_or a.0 b.0) (bit_or a.1 b.1) (or_lt 64 a.0 b.0 h.mask k.mask) (or_lt 64 a.1 b.1 h.value k.value)

differing_bits : (a b : ℕ × ℕ) → AreBits a → AreBits b → AreBits (differing a b)
differing_bits a b h k =
    let m = or_lt 64 a.0 b.0 h.mask k.mask in
    let x = xor_lt 64 a.1 b.1 h.value k.value in
    record { mask = m; value = less_lt (bit_xor a.1 b.1) (bit_or a.0 b.0) x; apart = less_apart (bit_xor a.1 b.1) (bit_or a.0 b.0) x m }

row_bits : (w : Width) (operation : Operation) (a b : ℕ × ℕ) → AreBits a → AreBits b → AreBits (row w operation a b)
row_bits w And a b h k = common_bits a b h k
row_bits w Or a b h k = either_bits a b h k
row_bits w Xor a b h k = differing_bits a b h k
row_bits w Move a b h k = k
row_bits w Add a b h k = unknown_bits w
row_bits w Sub a b h k = unknown_bits w
row_bits w Mul a b h k = unknown_bits w
row_bits w Div a b h k = unknown_bits w
row_bits w SignedDiv a b h k = unknown_bits w
row_bits w ShiftLeft a b h k = unknown_bits w
row_bits w ShiftRight a b h k = unknown_bits w
row_bits w Mod a b h k = unknown_bits w
row_bits w SignedMod a b h k = unknown_bits w
row_bits w ArithmeticShiftRight a b h k = unknown_bits w

row_has : (w : Width) (operation : Operation) (a b : ℕ × ℕ) (x y : ℕ) → AreBits a → AreBits b → HasBits a x → HasBits b y → operated w operation x y < 2 ^ bits_of w →
    HasBits (row w operation a b) (operated w operation x y)
row_has w And a b x y h k p q fits = and_holds a.0 a.1 b.0 b.1 x y h.mask h.value k.mask k.value h.apart k.apart p q
row_has w Or a b x y h k p q fits = or_holds a.0 a.1 b.0 b.1 x y h.mask h.value k.mask k.value h.apart k.apart p q
row_has w Xor a b x y h k p q fits = xor_holds a.0 a.1 b.0 b.1 x y h.mask h.value k.mask k.value p q
row_has w Move a b x y h k p q fits = q
row_has w Add a b x y h k p q fits = unknown_has w _ fits
row_has w Sub a b x y h k p q fits = unknown_has w _ fits
row_has w Mul a b x y h k p q fits = unknown_has w _ fits
row_has w Div a b x y h k p q fits = unknown_has w _ fits
row_has w SignedDiv a b x y h k p q fits = unknown_has w _ fits
row_has w ShiftLeft a b x y h k p q fits = unknown_has w _ fits
row_has w ShiftRight a b x y h k p q fits = unknown_has w _ fits
row_has w Mod a b x y h k p q fits = unknown_has w _ fits
row_has w SignedMod a b x y h k p q fits = unknown_has w _ fits
row_has w ArithmeticShiftRight a b x y h k p q fits = unknown_has w _ fits

pub table_bits : (w : Width) (operation : Operation) (a b : ℕ × ℕ) → AreBits a → AreBits b → AreBits (table w operation a b)
table_bits w operation a b h k = row_bits w operation (used w a) (used w b) (used_bits w a h) (used_bits w b k)

pub table_has : (w : Width) (operation : Operation) (a b : ℕ × ℕ) (x y : ℕ) → AreBits a → AreBits b → HasBits a x → HasBits b y → arithmetic w operation x y < 2 ^ bits_of w →
    HasBits (table w operation a b) (arithmetic w operation x y)
table_has w operation a b x y h k p q fits =
    row_has w operation (used w a) (used w b) (taken w x) (taken w y) (used_bits w a h) (used_bits w b k) (used_has w a x p) (used_has w b y q) fits
