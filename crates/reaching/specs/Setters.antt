-- Defines which units set a cell of the stack last on the paths to a unit: the first and the last of them, and whether
-- there are others (own; the reaching definitions of a compiler).
use Rattle.std.specs.Prelude.{ℕ, ℤ, zero, suc, pos, negsuc, min, max, ◌==◌, ◌&&◌, ◌||◌, not, nat_lt, Bool, true, false, List, [], ◌∷◌, Option, Some, None, length, replicate, slice_get, slice_set}
use Rattle.insn.specs.declared.insn.Insn.{Insn}
use Rattle.insn.specs.Program.{slots_of, instruction_at}
use Rattle.semantics.specs.Plain.{leads_to}
use Rattle.verify.specs.declared.state.AbsState.{AbsState}
use Rattle.reaching.specs.declared.setters.Setters.{Setters}
use Rattle.reaching.specs.declared.setters.Setters.TheVariants.{Nowhere, Units}
use Rattle.reaching.specs.declared.ways.Way.{Way}
use Rattle.reaching.specs.declared.ways.Way.TheVariants.{End, One, Two}
use Rattle.reaching.specs.declared.subject.Subject.{Subject}
use Rattle.reaching.specs.Marks.{KnownByUnit, known_by}
use Rattle.reaching.specs.Setting.{set_by, of_units}

-- Checks whether a unit is between two others.
abbrev pub is_inside : ℕ → ℕ → ℕ → Bool
is_inside first unit last = nat_lt first unit && nat_lt unit last

-- Checks whether there are others between the first and the last of the units `a` to `b` and `c` to `d`.
abbrev pub are_more : ℕ → ℕ → ℕ → ℕ → Bool
are_more a b c d =
    is_inside (min a c) (max a c) (max b d) || is_inside (min a c) (min b d) (max b d)

-- Returns the units of two paths together.
abbrev pub joined : Setters → Setters → Setters
joined Nowhere other = other
joined (Units a b one) Nowhere = Units a b one
joined (Units a b one) (Units c d two) = Units (min a c) (max b d) (one || (two || are_more a b c d))

-- Checks whether two flags are equal.
abbrev pub same_flag : Bool → Bool → Bool
same_flag true two = two
same_flag false two = not two

-- Checks whether the first unit, the last, and whether there are others are the same.
abbrev pub same_setters : Setters → Setters → Bool
same_setters Nowhere Nowhere = true
same_setters (Units a b one) (Units c d two) = a == c && (b == d && same_flag one two)
same_setters _ _ = false

-- ---- ways

-- Returns the way to units, of which there are at most two. Those that are negative are left out.
abbrev pub way_to : List ℤ → Way
way_to (pos to ∷ []) = One to
way_to (pos next ∷ pos to ∷ []) = Two next to
way_to (pos next ∷ negsuc n ∷ []) = One next
way_to _ = End

-- Returns the way from the instruction at a unit. It ends there if no path leads to the instruction.
abbrev pub way_from : ℕ → Option Insn → Option AbsState → Way
way_from unit (Some i) (Some a) = way_to (leads_to i unit)
way_from unit i known = End

-- Returns the way from each of the first `n` units.
abbrev pub ways_from : List Insn → KnownByUnit → ℕ → List Way
ways_from program survey n =
    of_units (λ unit. way_from unit (instruction_at program unit) (known_by (survey unit))) n

-- Returns the way from a unit, from its entry in a list. It ends there if the unit has no entry.
abbrev pub way_at : Option Way → Way
way_at None = End
way_at (Some way) = way

-- ---- the flow along the ways

-- Returns the setters of a unit, from its entry in a list. There are none if it has no entry.
abbrev pub setters_at : Option Setters → Setters
setters_at None = Nowhere
setters_at (Some found) = found

-- Returns the list after a path with these setters leads to a unit. It is unchanged if there is no such unit.
abbrev pub led : List Setters → ℕ → Setters → List Setters
led into unit more = slice_set into unit (joined (setters_at (slice_get into unit)) more)

-- Returns the list after paths with these setters lead along a way.
abbrev pub led_to : List Setters → Way → Setters → List Setters
led_to into End more = into
led_to into (One to) more = led into to more
led_to into (Two next to) more = led (led into next more) to more

-- Returns the setters after the instruction at a unit, from those before it. `changed` says whether it sets the cell.
abbrev pub setters_behind : Bool → ℕ → Setters → Setters
setters_behind true unit before = Units unit unit false
setters_behind false unit before = before

-- Returns the list after the instruction at a unit has passed the setters of this unit on.
abbrev pub passed_on : List Setters → ℕ → Way → Bool → List Setters
passed_on into unit way changed =
    led_to into way (setters_behind changed unit (setters_at (slice_get into unit)))

-- Returns the setters of each unit of a program, over the paths through its first `n` units.
abbrev pub setters_over : List Insn → KnownByUnit → Subject → ℕ → List Setters
setters_over program survey subject zero = replicate (length (slots_of program)) Nowhere
setters_over program survey subject (suc n) =
    passed_on (setters_over program survey subject n) n
    (way_from n (instruction_at program n) (known_by (survey n)))
    (set_by subject (instruction_at program n) (known_by (survey n)))

-- Returns the setters of each unit of a program, over all paths.
abbrev pub setters : List Insn → KnownByUnit → Subject → List Setters
setters program survey subject = setters_over program survey subject (length (slots_of program))
