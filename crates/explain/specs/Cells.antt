-- The text of what is known of stack cells, such as `[-8..-5] bytes (from 3)`. Each group of adjacent cells with the
-- same content, set by the same units, has the offsets of its first and last cell, the content, and these units (own).
use Rattle.std.specs.Prelude.{ℕ, ℤ, zero, suc, pos, ◌-◌, ◌==◌, ◌-ℤ◌, Bool, true, false, if◌then◌else◌, List, [], ◌++◌, Option, Some, None, codes, decimal}
use Rattle.std.specs.Fmt.{signed_decimal}
use Rattle.std.specs.Ordering.{int_eq}
use Rattle.insn.specs.declared.insn.Insn.{Insn}
use Rattle.insn.specs.declared.insn.Insn.TheVariants.{Load, LoadSigned, Call}
use Rattle.semantics.specs.declared.value.Region.TheVariants.{Stack}
use Rattle.semantics.specs.declared.request.Helper.{Helper}
use Rattle.semantics.specs.declared.request.Helper.TheVariants.{SendRow}
use Rattle.semantics.specs.Call.{helper_of}
use Rattle.absval.specs.declared.value.AbsVal.{AbsVal}
use Rattle.absval.specs.declared.value.AbsVal.TheVariants.{Pointer}
use Rattle.absval.specs.declared.windows.Window.{Window}
use Rattle.absval.specs.Windows.{window_known}
use Rattle.verify.specs.Registers.{known_at}
use Rattle.reaching.specs.declared.cells.CellContent.{CellContent}
use Rattle.reaching.specs.declared.cells.CellContent.TheVariants.{Unset, Byte, Piece}
use Rattle.explain.specs.declared.reach.Reach.{Reach}
use Rattle.explain.specs.Values.{region_text}
use Rattle.explain.specs.Shortfalls.{reach_of}
use Rattle.explain.specs.Sources.{Holding, same_holding, from_text}

-- Writes what a stack cell holds.
abbrev pub content_text : CellContent → List ℕ
content_text Unset = codes "perhaps unset"
content_text Byte = codes "bytes"
content_text (Piece region offset) = codes "pointer: " ++ region_text region ++ codes " " ++ signed_decimal offset

-- Writes the end of a range of stack cells, such as `..-5]`, or only the bracket if the first is also the last.
unfoldable pub last_text : ℤ → ℤ → List ℕ
last_text first last = if int_eq first last then codes "]" else codes ".." ++ signed_decimal last ++ codes "]"

-- Writes a range of stack cells by the offsets of the first and the last, such as `[-8..-5]`.
unfoldable pub cells_text : ℤ → ℤ → List ℕ
cells_text first last = codes "[" ++ signed_decimal first ++ last_text first last

-- Writes the stack cells from number `first` up to and excluding `end`, and what they hold. Cell 0 is the lowest.
abbrev pub run_text : ℕ → ℕ → CellContent → List ℕ
run_text first end held = cells_text (pos first -ℤ pos 512) (pos end -ℤ pos 513) ++ codes " " ++ content_text held

-- Writes the stack cells from number `first` up to and excluding `end`, what they hold, and which units set them.
abbrev pub sourced_text : ℕ → ℕ → Holding → List ℕ
sourced_text first end held = run_text first end held.0 ++ from_text held.1

-- Writes the stack cells from number `first` up to and excluding `end`, what they hold, which units set them, and a
-- comma.
abbrev pub ended_text : ℕ → ℕ → Holding → List ℕ
ended_text first end held = sourced_text first end held ++ codes ", "

-- Writes how many cells an access may touch besides those that are named.
abbrev pub left_text : ℕ → List ℕ
left_text cells = codes ", and " ++ decimal cells ++ codes " more"

-- Writes the stack cells from number `first` on, grouped by what they hold and which units set it. Those up to and
-- excluding `place` hold `held`, and the given number of cells follow. After the first group at most `most` are named.
abbrev pub runs_text : (ℕ → Holding) → ℕ → ℕ → Holding → ℕ → ℕ → List ℕ
runs_text holds most first held place zero = sourced_text first place held
runs_text holds most first held place (suc n) =
    if same_holding held (holds place) then runs_text holds most first held (suc place) n
    else (if most == 0 then sourced_text first place held ++ left_text (suc n)
    else ended_text first place held ++ runs_text holds (most - 1) place (holds place) (suc place) n)

-- Writes the given number of stack cells from number `place` on, grouped by what they hold and which units set it. Of
-- the groups, the first eight are named.
abbrev pub of_cells : (ℕ → Holding) → ℕ → ℕ → List ℕ
of_cells holds place zero = []
of_cells holds place (suc n) = codes " ; " ++ runs_text holds 7 place (holds place) (suc place) n

-- Writes the cells of a window of the stack, grouped by what they hold and which units set it.
abbrev pub of_window : (ℕ → Holding) → Option Window → List ℕ
of_window holds None = []
of_window holds (Some w) = of_cells holds w.place w.size

-- Writes the stack cells that an access through this value may touch, if it is a pointer into the stack.
abbrev pub of_reach : (ℕ → Holding) → Reach → AbsVal → List ℕ
of_reach holds reach (Pointer Stack o) = of_window holds (window_known Stack o.0 o.1 reach.distance reach.size)
of_reach holds reach value = []

-- ---- the cells that an instruction reads

-- Returns whether the helper reads orders from memory.
abbrev pub is_row : Option Helper → Bool
is_row (Some SendRow) = true
is_row helper = false

-- Returns whether the instruction reads memory.
abbrev pub reads_cells : Insn → Bool
reads_cells (Load size dst base offset) = true
reads_cells (LoadSigned part dst base offset) = true
reads_cells (Call number) = is_row (helper_of number)
reads_cells i = false

-- Writes the stack cells that an access may touch, if there is an access.
abbrev pub reached_cells : (ℕ → Holding) → Option Reach → List AbsVal → List ℕ
reached_cells holds None registers = []
reached_cells holds (Some reach) registers = of_reach holds reach (known_at registers reach.base)

-- Writes the stack cells that an instruction reads. `holds` says what each cell holds and which units set it.
abbrev pub cells_read : (ℕ → Holding) → Insn → List AbsVal → List ℕ
cells_read holds i registers = if reads_cells i then reached_cells holds (reach_of i registers) registers else []
