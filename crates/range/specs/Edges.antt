-- What a conditional jump implies about the two numbers that it compared, which are in the intervals p and q. There
-- is one edge on which the jump is taken, and one on which it is not. None means that no pair of numbers goes along the
-- edge.
use Rattle.std.specs.Prelude.{ℕ, ◌+◌, ◌-◌, ◌^◌, min, max, Bool, true, false, not, ◌&&◌, ◌==◌, nat_lt, nat_le, if◌then◌else◌, Option, Some, None}
use Rattle.word.specs.Arithmetic.{bits_of}
use Rattle.word.specs.declared.Width.{Width}
use Rattle.word.specs.declared.Condition.{Condition}
use Rattle.word.specs.declared.Condition.TheVariants.{Equal, Above, AtLeast, AnyBit, NotEqual, SignedAbove, SignedAtLeast, Below, AtMost, SignedBelow, SignedAtMost}
use Rattle.range.specs.Interval.{IsIn}
use Rattle.range.specs.Table.{sign_limit}

-- Two intervals, each given by its least and its greatest number.
abbrev pub Pair : Type 0
Pair = (ℕ × ℕ) × (ℕ × ℕ)

-- Returns both intervals, or None if one of them is empty.
abbrev pub both : ℕ × ℕ → ℕ × ℕ → Option Pair
both p q = if nat_lt p.1 p.0 then None else (if nat_lt q.1 q.0 then None else Some (p, q))

-- Exchanges the two intervals.
abbrev pub exchanged : Option Pair → Option Pair
exchanged None = None
exchanged (Some e) = Some (e.1, e.0)

-- Removes the only number of q from p, if it is an end of p. Returns p if q has several numbers.
abbrev pub without : ℕ × ℕ → ℕ × ℕ → ℕ × ℕ
without p q =
    if q.0 == q.1
    then (if p.0 == q.0 then (p.0 + 1, p.1) else (if p.1 == q.0 then (p.0, p.1 - 1) else p))
    else p

-- Narrows both intervals by what is known if the first number equals the second.
abbrev pub equal : ℕ × ℕ → ℕ × ℕ → Option Pair
equal p q = both (max p.0 q.0, min p.1 q.1) (max p.0 q.0, min p.1 q.1)

-- Narrows both intervals by what is known if the first number differs from the second.
abbrev pub different : ℕ × ℕ → ℕ × ℕ → Option Pair
different p q = both (without p q) (without q p)

-- Narrows both intervals by what is known if the first number is above the second.
abbrev pub above : ℕ × ℕ → ℕ × ℕ → Option Pair
above p q = both (max p.0 (q.0 + 1), p.1) (q.0, min q.1 (p.1 - 1))

-- Narrows both intervals by what is known if the first number is at least the second.
abbrev pub at_least : ℕ × ℕ → ℕ × ℕ → Option Pair
at_least p q = both (max p.0 q.0, p.1) (q.0, min q.1 p.1)

-- Narrows both intervals by what is known if a condition holds between their numbers. If the condition is signed, no
-- number may be negative as signed.
abbrev pub edge : Condition → ℕ × ℕ → ℕ × ℕ → Option Pair
edge Equal p q = equal p q
edge NotEqual p q = different p q
edge Above p q = above p q
edge SignedAbove p q = above p q
edge AtLeast p q = at_least p q
edge SignedAtLeast p q = at_least p q
edge Below p q = exchanged (above q p)
edge SignedBelow p q = exchanged (above q p)
edge AtMost p q = exchanged (at_least q p)
edge SignedAtMost p q = exchanged (at_least q p)
edge AnyBit p q = Some (p, q)

-- Returns whether a condition holds between two numbers that are not negative as signed. It is always true for
-- `AnyBit`, because nothing is concluded from shared bits.
abbrev pub meets : Condition → ℕ → ℕ → Bool
meets Equal x y = x == y
meets NotEqual x y = not (x == y)
meets Above x y = nat_lt y x
meets SignedAbove x y = nat_lt y x
meets AtLeast x y = nat_le y x
meets SignedAtLeast x y = nat_le y x
meets Below x y = nat_lt x y
meets SignedBelow x y = nat_lt x y
meets AtMost x y = nat_le x y
meets SignedAtMost x y = nat_le x y
meets AnyBit x y = true

-- Returns the condition of the other edge, which holds exactly if this one does not. For `AnyBit` it is `AnyBit`,
-- because neither edge narrows an interval.
abbrev pub opposite : Condition → Condition
opposite Equal = NotEqual
opposite NotEqual = Equal
opposite Above = AtMost
opposite AtMost = Above
opposite AtLeast = Below
opposite Below = AtLeast
opposite SignedAbove = SignedAtMost
opposite SignedAtMost = SignedAbove
opposite SignedAtLeast = SignedBelow
opposite SignedBelow = SignedAtLeast
opposite AnyBit = AnyBit

-- Returns the limit below which numbers are narrowed. For a signed condition it is the least number that is negative
-- as signed, and otherwise 2^32 or 2^64.
abbrev pub edge_limit : Width → Condition → ℕ
edge_limit w SignedAbove = sign_limit w
edge_limit w SignedAtLeast = sign_limit w
edge_limit w SignedBelow = sign_limit w
edge_limit w SignedAtMost = sign_limit w
edge_limit w Equal = 2 ^ bits_of w
edge_limit w NotEqual = 2 ^ bits_of w
edge_limit w Above = 2 ^ bits_of w
edge_limit w AtLeast = 2 ^ bits_of w
edge_limit w Below = 2 ^ bits_of w
edge_limit w AtMost = 2 ^ bits_of w
edge_limit w AnyBit = 2 ^ bits_of w

-- Narrows both intervals on the edge where a condition holds (true), or on the other edge (false).
abbrev pub edge_taken : Condition → Bool → ℕ × ℕ → ℕ × ℕ → Option Pair
edge_taken condition true p q = edge condition p q
edge_taken condition false p q = edge (opposite condition) p q

-- Returns whether anything is concluded from a condition. Nothing is concluded from shared bits.
abbrev pub tells : Condition → Bool
tells AnyBit = false
tells Equal = true
tells NotEqual = true
tells Above = true
tells AtLeast = true
tells Below = true
tells AtMost = true
tells SignedAbove = true
tells SignedAtLeast = true
tells SignedBelow = true
tells SignedAtMost = true

-- Returns whether a jump on a condition can narrow these two intervals.
abbrev pub is_refined : Width → Condition → ℕ × ℕ → ℕ × ℕ → Bool
is_refined w condition p q =
    (nat_lt p.1 (edge_limit w condition) && nat_lt q.1 (edge_limit w condition)) && tells condition

-- Narrows two intervals by what is known if a jump on a condition is taken, or is not taken.
unfoldable pub refined : Width → Condition → Bool → ℕ × ℕ → ℕ × ℕ → Option Pair
refined w condition taken p q =
    if nat_lt p.1 (edge_limit w condition) && nat_lt q.1 (edge_limit w condition)
    then edge_taken condition taken p q
    else Some (p, q)

-- States that two intervals remain, and that they contain the numbers x and y.
abbrev pub HoldBoth : Option Pair → ℕ → ℕ → Type 0
HoldBoth None x y = ⊥
HoldBoth (Some e) x y = IsIn e.0.0 e.0.1 x × IsIn e.1.0 e.1.1 y
