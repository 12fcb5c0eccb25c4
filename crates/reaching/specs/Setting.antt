-- Defines when an instruction sets a register or a cell of the stack (own).
use Rattle.std.specs.Prelude.{ℕ, zero, suc, ◌==◌, not, nat_le, Bool, false, List, [], ◌∷◌, ◌++◌, Option, Some, None}
use Rattle.insn.specs.declared.insn.Insn.{Insn}
use Rattle.insn.specs.declared.insn.Insn.TheVariants.{Call}
use Rattle.verify.specs.declared.state.AbsState.{AbsState}
use Rattle.reaching.specs.declared.subject.Subject.{Subject}
use Rattle.reaching.specs.declared.subject.Subject.TheVariants.{Register, Cell}
use Rattle.reaching.specs.Contents.{held_at, same_content}
use Rattle.reaching.specs.Left.{left, result_of}

-- Checks whether register `r` is the one to which an instruction writes its result.
abbrev pub is_result : ℕ → Option ℕ → Bool
is_result r None = false
is_result r (Some dst) = dst == r

-- Checks whether an instruction writes a register. A call writes r0 to r5.
abbrev pub writes : Insn → ℕ → Bool
writes (Call number) r = nat_le r 5
writes i r = is_result r (result_of i)

-- Checks whether an instruction sets a register or a cell of the stack. A register is set if it is written. A cell is
-- set if the instruction changes what is known of it.
abbrev pub sets : Subject → Insn → AbsState → Bool
sets (Register r) i a = writes i r
sets (Cell place) i a = not (same_content (held_at a.stack place) (held_at (left i a).stack place))

-- Checks whether the instruction at a unit sets the register or cell. It does not if there is no instruction, or if no
-- path leads there.
abbrev pub set_by : Subject → Option Insn → Option AbsState → Bool
set_by subject (Some i) (Some a) = sets subject i a
set_by subject i known = false

-- Returns a list with an entry for each of the first `n` units. `tells` gives the entry of a unit.
abbrev pub of_units : {X : Type 0} → (ℕ → X) → ℕ → List X
of_units tells zero = []
of_units tells (suc n) = of_units tells n ++ tells n ∷ []
