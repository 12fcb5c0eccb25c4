-- What is known of a value, as text (own).
use Rattle.std.specs.Prelude.{ℕ, ℤ, ◌+◌, ◌-◌, ◌%◌, ◌^◌, ◌==◌, ◌&&◌, ◌||◌, nat_le, bit_and, Bool, false, if◌then◌else◌, List, [], ◌++◌, codes, decimal}
use Rattle.std.specs.Fmt.{signed_decimal, digits}
use Rattle.std.specs.Int.{w64, cast_signed}
use Rattle.std.specs.Ordering.{int_eq}
use Rattle.semantics.specs.declared.value.Region.{Region}
use Rattle.semantics.specs.declared.value.Region.TheVariants.{Stack, Context}
use Rattle.absval.specs.declared.number_set.NumberSet.{NumberSet}
use Rattle.absval.specs.declared.value.AbsVal.{AbsVal}
use Rattle.absval.specs.declared.value.AbsVal.TheVariants.{Unset, Number, Pointer}

-- Writes a range of unsigned numbers, such as `5` or `0 to 7`.
abbrev pub words_text : ℕ × ℕ → List ℕ
words_text p = if p.0 == p.1 then decimal p.0 else decimal p.0 ++ codes " to " ++ decimal p.1

-- Writes a range of signed numbers, such as `-8` or `-8 to 0`.
abbrev pub span_text : ℤ × ℤ → List ℕ
span_text p = if int_eq p.0 p.1 then signed_decimal p.0 else signed_decimal p.0 ++ codes " to " ++ signed_decimal p.1

-- Returns whether the range contains every 64-bit number.
abbrev pub is_any : ℕ × ℕ → Bool
is_any p = p.0 == 0 && p.1 == 2 ^ 64 - 1

-- Writes a range of numbers. If all are 2^63 or more, they are written as negative numbers.
abbrev pub range_text : ℕ × ℕ → List ℕ
range_text p =
    if is_any p then codes "any number"
    else (if nat_le (2 ^ 63) p.0 then span_text (cast_signed w64 p.0, cast_signed w64 p.1) else words_text p)

-- Returns whether known bits say no more than an upper bound: some lowest bits are open, and all others are 0.
abbrev pub is_bound : ℕ × ℕ → Bool
is_bound bits = bits.1 == 0 && bit_and bits.0 ((bits.0 + 1) % 2 ^ 64) == 0

-- Writes the bits that are open (not known), and those that are known to be set.
abbrev pub bits_text : ℕ × ℕ → List ℕ
bits_text bits =
    codes ", bits 0x" ++ digits 16 false bits.0 ++ codes " open, 0x" ++ digits 16 false bits.1 ++ codes " set"

-- Writes the numbers that a value may be: their range, and the known bits if these say more than the range.
abbrev pub numbers_text : NumberSet → List ℕ
numbers_text n = range_text n.range ++ (if n.range.0 == n.range.1 || is_bound n.bits then [] else bits_text n.bits)

-- Writes the name of a region.
abbrev pub region_text : Region → List ℕ
region_text Stack = codes "stack"
region_text Context = codes "context"

-- Writes what is known of a value: the numbers that it may be, or a region and offsets.
abbrev pub value_text : AbsVal → List ℕ
value_text Unset = codes "perhaps unset"
value_text (Number n) = numbers_text n
value_text (Pointer region offsets) = region_text region ++ codes " " ++ span_text offsets
