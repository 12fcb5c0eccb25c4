-- Defines sets of numbers: those in a range that have certain known bits (own).
use Rattle.std.specs.Prelude.{ℕ, ◌==◌, min, max, Bool, nat_le, if◌then◌else◌, Option, Some, None, bit_or}
use Rattle.word.specs.declared.Width.{Width}
use Rattle.word.specs.declared.Width.TheVariants.{W64}
use Rattle.word.specs.declared.Operation.{Operation}
use Rattle.word.specs.declared.Condition.{Condition}
use Rattle.word.specs.declared.Narrow.{Narrow}
use Rattle.word.specs.declared.SwapSize.{SwapSize}
use Rattle.word.specs.declared.ByteOrder.{ByteOrder}
use Rattle.range.specs.Interval.{IsIn}
use Rattle.range.specs.Table as range
use Rattle.range.specs.Edges.{Pair, is_refined}
use Rattle.range.specs.Edges as edge
use Rattle.bits.specs.Known.{HasBits, has_bits, unknown}
use Rattle.bits.specs.Known as known
use Rattle.absval.specs.declared.number_set.NumberSet.{NumberSet}

-- States that the number is in the set: it is in the range, and has the known bits.
pub record Has (numbers : NumberSet) (x : ℕ) : Type 0 where
  pub range : IsIn numbers.range.0 numbers.range.1 x
  pub bits : HasBits numbers.bits x

-- Returns the set that contains only `n`.
abbrev pub single : ℕ → NumberSet
single n = record { range = range.single n; bits = known.single n }

-- Returns the set of all numbers in a range. None of their bits is known.
abbrev pub within : ℕ × ℕ → NumberSet
within p = record { range = p; bits = unknown W64 }

-- The set of all 64-bit numbers.
abbrev pub any : NumberSet
any = within (range.whole W64)

-- Returns the greatest number of the set's range.
abbrev pub greatest : NumberSet → ℕ
greatest n = n.range.1

-- Checks whether the set's range has only one number.
abbrev pub is_one : NumberSet → Bool
is_one n = n.range.0 == n.range.1

-- Returns the join of two sets: one that contains all numbers of both.
abbrev pub joined : NumberSet → NumberSet → NumberSet
joined a b = record { range = range.joined a.range.0 a.range.1 b.range.0 b.range.1; bits = known.joined a.bits b.bits }

-- Returns the set of the only number in a range, with all bits known. There is none if the number does not have the
-- known bits.
abbrev pub reduced_one : ℕ × ℕ → ℕ × ℕ → Option NumberSet
reduced_one p b = if has_bits b p.0 then Some (record { range = p; bits = known.single p.0 }) else None

-- Returns a range cut to the least and the greatest number that the known bits allow. There is none if no number is
-- left.
abbrev pub reduced_ends : ℕ × ℕ → ℕ × ℕ → Option NumberSet
reduced_ends p b =
    if nat_le (max p.0 b.1) (min p.1 (bit_or b.1 b.0))
    then Some (record { range = (max p.0 b.1, min p.1 (bit_or b.1 b.0)); bits = b })
    else None

-- Returns a range and known bits, with each narrowed by the other. There is none if they contradict each other.
abbrev pub reduced : ℕ × ℕ → ℕ × ℕ → Option NumberSet
reduced p b = if p.0 == p.1 then reduced_one p b else reduced_ends p b

-- Returns the narrowed set if there is one, and otherwise all numbers in the range.
abbrev pub settled_by : ℕ × ℕ → Option NumberSet → NumberSet
settled_by p None = within p
settled_by p (Some n) = n

-- Returns the set of the numbers in a range with certain known bits. If they contradict each other, only the range is
-- used.
unfoldable pub settled : ℕ × ℕ → ℕ × ℕ → NumberSet
settled p b = settled_by p (reduced p b)

-- ---- Operations, by the tables of ranges and of known bits

-- Returns a set that contains all results of an operation on a number of `a` and a number of `b`.
abbrev pub table : Width → Operation → NumberSet → NumberSet → NumberSet
table w operation a b =
    settled (range.table w operation a.range.0 a.range.1 b.range.0 b.range.1) (known.table w operation a.bits b.bits)

-- Returns a set that contains the low bits of all numbers, as a move of this width keeps them.
abbrev pub copies : Width → NumberSet → NumberSet
copies w a = settled (range.low w a.range.0 a.range.1) (known.used w a.bits)

-- Returns a set that contains the negations of all numbers. Only their range is known.
abbrev pub negations : Width → NumberSet → NumberSet
negations w a = settled (range.negations w a.range.0 a.range.1) (unknown w)

-- Returns a set that contains all numbers after their low bits are sign-extended.
abbrev pub extensions : Width → Narrow → NumberSet → NumberSet
extensions w part a = settled (range.extensions w part a.range.0 a.range.1) (unknown w)

-- Returns a set that contains all numbers after their low bytes are put in this order.
abbrev pub swaps : ByteOrder → SwapSize → NumberSet → NumberSet
swaps order size a = settled (range.swaps order size a.range.0 a.range.1) (unknown W64)

-- ---- Conditional jumps

-- Returns both sets, if there are both.
abbrev pub both : Option NumberSet → Option NumberSet → Option (NumberSet × NumberSet)
both None b = None
both (Some a) None = None
both (Some a) (Some b) = Some (a, b)

-- Returns two sets, each from the range that the condition leaves, narrowed by the known bits.
abbrev pub reduced_both : ℕ × ℕ → ℕ × ℕ → Option Pair → Option (NumberSet × NumberSet)
reduced_both b c None = None
reduced_both b c (Some e) = both (reduced e.0 b) (reduced e.1 c)

-- Narrows two compared sets to the case that the condition holds (`taken`) or does not hold. No result means that this
-- is impossible.
abbrev pub refined : Width → Condition → Bool → NumberSet → NumberSet → Option (NumberSet × NumberSet)
refined w condition taken a b =
    if is_refined w condition a.range b.range
    then reduced_both a.bits b.bits (edge.refined w condition taken a.range b.range)
    else Some (a, b)

-- States that two sets remain, and that they contain the two numbers.
abbrev pub HaveBoth : Option (NumberSet × NumberSet) → ℕ → ℕ → Type 0
HaveBoth None x y = ⊥
HaveBoth (Some e) x y = Has e.0 x × Has e.1 y
