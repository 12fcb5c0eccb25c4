-- Defines for each cell, which is one of the 512 bytes of the stack, which units of a program set it last on the paths
-- to each unit (own).
use Rattle.std.specs.Prelude.{ℕ, ◌≡◌, not, Bool, false, List, Option, Some, None, length, slice_get}
use Rattle.insn.specs.declared.insn.Insn.{Insn}
use Rattle.insn.specs.declared.insn.Insn.TheVariants.{Store, Call}
use Rattle.insn.specs.Program.{instruction_at}
use Rattle.absmem.specs.Known.{Known}
use Rattle.verify.specs.declared.state.AbsState.{AbsState}
use Rattle.reaching.specs.declared.changes.Column.{Column}
use Rattle.reaching.specs.declared.subject.Subject.TheVariants.{Cell}
use Rattle.reaching.specs.Contents.{held_at, same_content}
use Rattle.reaching.specs.Left.{left}
use Rattle.reaching.specs.Setting.{of_units}
use Rattle.reaching.specs.Setters.{setters}
use Rattle.reaching.specs.Marks.{KnownByUnit, known_by}

-- Returns the abstract stack after a store or a call. Returns `None` for any other instruction, and if no path leads to
-- it.
abbrev pub stack_behind : Option Insn → Option AbsState → Option Known
stack_behind (Some (Store size base offset source)) (Some a) = Some (left (Store size base offset source) a).stack
stack_behind (Some (Call number)) (Some a) = Some (left (Call number) a).stack
stack_behind i known = None

-- Returns for each of the first `n` units the abstract stack after its instruction. An entry is `None` if this is
-- neither a store nor a call, or if no path leads to it.
abbrev pub stacks_behind : List Insn → KnownByUnit → ℕ → List (Option Known)
stacks_behind program survey n =
    of_units (λ unit. stack_behind (instruction_at program unit) (known_by (survey unit))) n

-- Returns the abstract stack after the instruction at a unit, from the list's entry for this unit, if there is one.
abbrev pub stack_at : Option (Option Known) → Option Known
stack_at None = None
stack_at (Some behind) = behind

-- Checks whether an instruction changes what is known of a cell of the stack. Returns `false` if what is known before
-- or after it is `None`.
abbrev pub changed_in : ℕ → Option AbsState → Option Known → Bool
changed_in cell (Some a) (Some behind) = not (same_content (held_at a.stack cell) (held_at behind cell))
changed_in cell known behind = false

-- States that the column says for each unit of the program which units set the cell last on the paths to it.
abbrev pub IsColumn : List Insn → KnownByUnit → ℕ → Column → Type 0
IsColumn program survey cell column = column.setters.items ≡ setters program survey (Cell cell)

-- States that there is a column for each of the 512 cells of the stack, from the lowest cell on.
pub record AreColumns (program : List Insn) (survey : KnownByUnit) (columns : List Column) : Type 0 where
  pub all : length columns ≡ 512
  pub each : (cell : ℕ) (column : Column) → slice_get columns cell ≡ Some column → IsColumn program survey cell column
