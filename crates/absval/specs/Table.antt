-- Defines what the verifier knows of a result, from what it knows of the operands (own).
use Rattle.std.specs.Prelude.{ℕ, ℤ, option_map, option_and_then, pos, ◌-◌, ◌^◌, ◌+ℤ◌, ◌-ℤ◌, nat_lt, nat_le, ◌&&◌, if◌then◌else◌, Option, Some, None}
use Rattle.std.specs.Int.{w64, cast_unsigned, int_min, int_max}
use Rattle.word.specs.declared.Width.{Width}
use Rattle.word.specs.declared.Width.TheVariants.{W64}
use Rattle.word.specs.declared.Operation.{Operation}
use Rattle.word.specs.declared.Operation.TheVariants.{Add, Sub, Move}
use Rattle.word.specs.declared.Narrow.{Narrow}
use Rattle.word.specs.declared.SwapSize.{SwapSize}
use Rattle.word.specs.declared.ByteOrder.{ByteOrder}
use Rattle.absval.specs.declared.number_set.NumberSet.{NumberSet}
use Rattle.absval.specs.NumberSets.{single, within, table, copies, joined as joined_sets, negations, extensions, swaps}
use Rattle.insn.specs.declared.insn.Size.{Size}
use Rattle.insn.specs.Insn.{bytes_of}
use Rattle.semantics.specs.declared.value.Region.{Region}
use Rattle.semantics.specs.Memory.{is_same_region}
use Rattle.absval.specs.Limits.{is_near}
use Rattle.absval.specs.declared.value.AbsVal.{AbsVal}
use Rattle.absval.specs.declared.value.AbsVal.TheVariants.{Unset, Number, Pointer}

-- ---- Where two paths meet

-- Returns the smallest range of offsets that contains both ranges.
abbrev pub joined_offsets : ℤ × ℤ → ℤ × ℤ → ℤ × ℤ
joined_offsets m n = (int_min m.0 n.0, int_max m.1 n.1)

-- Returns the join of what is known on two paths. Nothing is known unless both are numbers, or both are pointers into
-- the same region.
abbrev pub joined : AbsVal → AbsVal → AbsVal
joined (Number m) (Number n) = Number (joined_sets m n)
joined (Pointer region m) (Pointer other n) =
    if is_same_region region other then Pointer region (joined_offsets m n) else Unset
joined _ _ = Unset

-- ---- Pointer arithmetic

-- Returns the ends of a range as signed numbers. There are none if the range contains both 2^63 - 1 and 2^63, at which
-- the sign changes.
abbrev pub in_a_row : ℕ × ℕ → Option (ℤ × ℤ)
in_a_row n =
    if nat_lt n.1 (2 ^ 63) then Some (pos n.0, pos n.1)
    else (if nat_le (2 ^ 63) n.0 then Some (pos n.0 -ℤ pos (2 ^ 64), pos n.1 -ℤ pos (2 ^ 64)) else None)

-- Returns the range of offsets, if both ends are from -65,536 to 65,536.
abbrev pub near : ℤ × ℤ → Option (ℤ × ℤ)
near o = if is_near o.0 && is_near o.1 then Some o else None

-- Returns the offsets after numbers are added. There are none if one may be below -65,536 or above 65,536.
abbrev pub raised : ℤ × ℤ → ℤ × ℤ → Option (ℤ × ℤ)
raised o by = near (o.0 +ℤ by.0, o.1 +ℤ by.1)

-- Returns the offsets after numbers are subtracted. There are none if one may be below -65,536 or above 65,536.
abbrev pub lowered : ℤ × ℤ → ℤ × ℤ → Option (ℤ × ℤ)
lowered o by = near (o.0 -ℤ by.1, o.1 -ℤ by.0)

-- Returns the offsets after a 64-bit addition or subtraction of a number. No other operation may be used on a pointer
-- and a number.
abbrev pub displaced : Width → Operation → ℤ × ℤ → ℤ × ℤ → Option (ℤ × ℤ)
displaced W64 Add o by = raised o by
displaced W64 Sub o by = lowered o by
displaced _ _ o by = None

-- Returns what is known of a pointer after a number is added or subtracted, if that is allowed.
abbrev pub shifted : Width → Operation → Region → ℤ × ℤ → NumberSet → Option AbsVal
shifted w operation region o n =
    option_map (Pointer region) (option_and_then (displaced w operation o) (in_a_row n.range))

-- ---- Operations

-- Returns what is known of a move's result: the low bits of a number, or a pointer, which can be moved only with 64
-- bits.
abbrev pub moved : Width → AbsVal → Option AbsVal
moved w Unset = None
moved w (Number n) = Some (Number (copies w n))
moved W64 (Pointer region o) = Some (Pointer region o)
moved _ (Pointer region o) = None

-- Returns what is known of the result of an operation other than a move. There is nothing if the operation must not be
-- used on a pointer, or if an operand may be unset.
abbrev pub combined : Width → Operation → AbsVal → AbsVal → Option AbsVal
combined w operation (Number m) (Number n) = Some (Number (table w operation m n))
combined w operation (Pointer region o) (Number n) = shifted w operation region o n
combined w operation _ _ = None

-- Returns what is known of an operation's result. There is nothing if the operation must not be used on a pointer, or
-- if an operand may be unset.
abbrev pub computed : Width → Operation → AbsVal → AbsVal → Option AbsVal
computed w Move a b = moved w b
computed w operation a b = combined w operation a b

-- Returns what is known of the result of an instruction that maps a number to a number. There is nothing if the value
-- may not be a number.
abbrev pub mapped : (NumberSet → NumberSet) → AbsVal → Option AbsVal
mapped f (Number n) = Some (Number (f n))
mapped f _ = None

-- Returns what is known of a value's negation, if it is a number.
abbrev pub negated_known : Width → AbsVal → Option AbsVal
negated_known w a = mapped (negations w) a

-- Returns what is known of a value after its low bits are sign-extended, if it is a number.
abbrev pub extended_known : Width → Narrow → AbsVal → Option AbsVal
extended_known w part a = mapped (extensions w part) a

-- Returns what is known of a value after its low bytes are put in this order, if it is a number.
abbrev pub swapped_known : ByteOrder → SwapSize → AbsVal → Option AbsVal
swapped_known order size a = mapped (swaps order size) a

-- ---- Immediate numbers and loads

-- Returns what is known of an immediate number, which is sign-extended (RFC 9669, section 4.1).
abbrev pub immediate_known : ℤ → AbsVal
immediate_known n = Number (single (cast_unsigned w64 n))

-- Returns what is known of a loaded number: it is any number of this size.
abbrev pub loaded_known : Size → AbsVal
loaded_known size = Number (within (0, 256 ^ bytes_of size - 1))
