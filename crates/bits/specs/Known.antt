-- Known bits of words (the "tristate numbers" of the Linux kernel's verifier, as in Vishwanathan and others, "Sound,
-- Precise, and Fast Abstract Interpretation with Tristate Numbers", 2022). They are a pair of a mask and a value. A
-- bit that is set in the mask is unknown, and any other bit is as in the value.
use Rattle.std.specs.Prelude.{ℕ, ◌≡◌, ◌==◌, Bool, ◌-◌, ◌<◌, ◌^◌, bit_and, bit_or, bit_xor}
use Rattle.std.specs.Int.{w64, bit_at, bit_not}
use Rattle.word.specs.Arithmetic.{bits_of, taken}
use Rattle.word.specs.declared.Width.{Width}
use Rattle.word.specs.declared.Operation.{Operation}
use Rattle.word.specs.declared.Operation.TheVariants.{Add, Sub, Mul, Div, SignedDiv, Or, And, ShiftLeft, ShiftRight, Mod, SignedMod, Xor, Move, ArithmeticShiftRight}

-- States that a word has the known bits: each bit that is not set in the mask is as in the value.
pub record HasBits (b : ℕ × ℕ) (x : ℕ) : Type 0 where
  pub word : x < 2 ^ 64
  pub same : (i : ℕ) → bit_at b.0 i ≡ 0 → bit_at x i ≡ bit_at b.1 i

-- Returns whether a word has the known bits.
abbrev pub has_bits : ℕ × ℕ → ℕ → Bool
has_bits b x = bit_or x b.0 == bit_or b.1 b.0

-- Returns the bits of a that are not set in b.
abbrev pub less : ℕ → ℕ → ℕ
less a b = bit_and a (bit_not w64 b)

-- Returns the known bits of only one number, n: all bits are known.
abbrev pub single : ℕ → ℕ × ℕ
single n = (0, n)

-- Returns the known bits of an arbitrary number of 32 or 64 bits: all these bits are unknown.
abbrev pub unknown : Width → ℕ × ℕ
unknown w = (2 ^ bits_of w - 1, 0)

-- Returns the known bits of the low 32 or 64 bits, which operations of this width use.
abbrev pub used : Width → ℕ × ℕ → ℕ × ℕ
used w b = (taken w b.0, taken w b.1)

-- Returns the mask of a join. A bit is unknown if it is unknown in a or b, or if it is known in both with different
-- values.
abbrev pub joined_mask : ℕ × ℕ → ℕ × ℕ → ℕ
joined_mask a b = bit_or (bit_or a.0 b.0) (bit_xor a.1 b.1)

-- Returns the join of two pairs: a bit is known if it is known in both with the same value.
abbrev pub joined : ℕ × ℕ → ℕ × ℕ → ℕ × ℕ
joined a b = (joined_mask a b, less a.1 (joined_mask a b))

-- Returns the known bits of an AND. A bit is known to be 1 if it is in both words, and unknown if it may be 1 in both
-- words but is not known to be.
abbrev pub common : ℕ × ℕ → ℕ × ℕ → ℕ × ℕ
common a b = (less (bit_and (bit_or a.1 a.0) (bit_or b.1 b.0)) (bit_and a.1 b.1), bit_and a.1 b.1)

-- Returns the known bits of an OR. A bit is known to be 1 if it is known to be 1 in one of the words, and otherwise
-- unknown if it is unknown in one of them.
abbrev pub either : ℕ × ℕ → ℕ × ℕ → ℕ × ℕ
either a b = (less (bit_or a.0 b.0) (bit_or a.1 b.1), bit_or a.1 b.1)

-- Returns the known bits of an XOR. A bit is unknown if it is unknown in one of the words.
abbrev pub differing : ℕ × ℕ → ℕ × ℕ → ℕ × ℕ
differing a b = (bit_or a.0 b.0, less (bit_xor a.1 b.1) (bit_or a.0 b.0))

-- Returns the known bits of all results of an operation. Both operands have only bits of the width.
abbrev pub row : Width → Operation → ℕ × ℕ → ℕ × ℕ → ℕ × ℕ
row w And a b = common a b
row w Or a b = either a b
row w Xor a b = differing a b
row w Move a b = b
row w Add a b = unknown w
row w Sub a b = unknown w
row w Mul a b = unknown w
row w Div a b = unknown w
row w SignedDiv a b = unknown w
row w ShiftLeft a b = unknown w
row w ShiftRight a b = unknown w
row w Mod a b = unknown w
row w SignedMod a b = unknown w
row w ArithmeticShiftRight a b = unknown w

-- Returns the known bits of all results of an operation.
abbrev pub table : Width → Operation → ℕ × ℕ → ℕ × ℕ → ℕ × ℕ
table w operation a b = row w operation (used w a) (used w b)
