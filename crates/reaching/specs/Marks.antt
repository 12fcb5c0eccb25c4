-- Defines which units last set a register or a cell of the stack before a given unit, on the paths that lead there
-- (own; the reaching definitions of a compiler).
use Rattle.std.specs.Prelude.{ℕ, ℤ, zero, suc, pos, negsuc, ◌-◌, ◌||◌, Bool, true, false, if◌then◌else◌, List, [], ◌∷◌, Option, Some, None, length, replicate, slice_get, slice_set}
use Rattle.insn.specs.declared.insn.Insn.{Insn}
use Rattle.insn.specs.Program.{slots_of, instruction_at}
use Rattle.semantics.specs.Plain.{leads_to}
use Rattle.verify.specs.declared.state.AbsState.{AbsState}
use Rattle.reaching.specs.declared.mark.UnitMark.{UnitMark}
use Rattle.reaching.specs.declared.mark.UnitMark.TheVariants.{Closed, Open, Sets}
use Rattle.reaching.specs.declared.subject.Subject.{Subject}
use Rattle.reaching.specs.Setting.{sets}

-- What is known before each unit. The entry of a unit is `None` if the verifier does not reach the unit, because it has
-- found a fault before. It is `Some None` if no path leads to the unit.
abbrev pub KnownByUnit : Type 0
KnownByUnit = ℕ → Option (Option AbsState)

-- Returns what is known before a unit, from its entry in a list. Returns `None` if nothing is known.
abbrev pub known_by : Option (Option AbsState) → Option AbsState
known_by None = None
known_by (Some known) = known

-- Checks whether a mark is `Open`.
abbrev pub is_open : Option UnitMark → Bool
is_open (Some Open) = true
is_open _ = false

-- Checks whether the unit with this number has the mark `Open`. Returns `false` if there is no such unit.
abbrev pub open_at : List UnitMark → ℤ → Bool
open_at marks (pos unit) = is_open (slice_get marks unit)
open_at marks (negsuc n) = false

-- Checks whether one of the units to which an instruction may lead has the mark `Open`.
abbrev pub leads_open : List UnitMark → List ℤ → Bool
leads_open marks (z ∷ []) = open_at marks z
leads_open marks (z ∷ y ∷ []) = open_at marks z || open_at marks y
leads_open marks _ = false

-- Returns the mark of a unit, from the marks of all later units. If its instruction may lead to an `Open` unit, the
-- mark is `Sets` or `Open`, depending on whether the instruction sets the register or cell. Otherwise it is `Closed`.
abbrev pub mark_of : Subject → List UnitMark → ℕ → Option Insn → Option AbsState → UnitMark
mark_of subject marks unit (Some i) (Some a) =
    if leads_open marks (leads_to i unit) then (if sets subject i a then Sets else Open) else Closed
mark_of subject marks unit i known = Closed

-- Returns the marks for the given unit `unit` when those of the `n` units directly before it are computed. The given
-- unit itself has the mark `Open`, and all other units have `Closed`.
abbrev pub marked : List Insn → KnownByUnit → Subject → ℕ → ℕ → List UnitMark
marked program survey subject unit zero = slice_set (replicate (length (slots_of program)) Closed) unit Open
marked program survey subject unit (suc n) =
    slice_set (marked program survey subject unit n) (unit - suc n)
    (mark_of subject (marked program survey subject unit n) (unit - suc n) (instruction_at program (unit - suc n))
    (known_by (survey (unit - suc n))))

-- Returns the marks of all units for the given unit `unit`.
abbrev pub marks : List Insn → KnownByUnit → Subject → ℕ → List UnitMark
marks program survey subject unit = marked program survey subject unit unit
