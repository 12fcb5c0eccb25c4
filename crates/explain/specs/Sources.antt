-- What a stack cell holds at a unit, and the units that set it last on the paths to that unit (own).
use Rattle.std.specs.Prelude.{ℕ, ◌==◌, ◌&&◌, Bool, true, false, if◌then◌else◌, List, [], ◌++◌, codes, decimal, slice_get}
use Rattle.insn.specs.declared.insn.Insn.{Insn}
use Rattle.absmem.specs.Known.{Known}
use Rattle.reaching.specs.declared.cells.CellContent.{CellContent}
use Rattle.reaching.specs.declared.setters.Setters.{Setters}
use Rattle.reaching.specs.declared.setters.Setters.TheVariants.{Nowhere, Units}
use Rattle.reaching.specs.declared.subject.Subject.TheVariants.{Cell}
use Rattle.reaching.specs.Contents.{held_at, same_content}
use Rattle.reaching.specs.Setters.{setters, setters_at, same_setters}
use Rattle.reaching.specs.Marks.{KnownByUnit}

-- Returns the units that set the cell last on the paths to a unit. A path from the entry on which nothing sets the cell
-- adds no unit.
abbrev pub sources : List Insn → KnownByUnit → ℕ → ℕ → Setters
sources program survey unit cell = setters_at (slice_get (setters program survey (Cell cell)) unit)

-- What a stack cell holds, and the units that set it.
abbrev pub Holding : Type 0
Holding = CellContent × Setters

-- Returns what a stack cell holds at a unit, and the units that set it. `known` is what is known of the stack there.
abbrev pub holding : List Insn → KnownByUnit → ℕ → Known → ℕ → Holding
holding program survey unit known cell = (held_at known cell, sources program survey unit cell)

-- Returns whether two cells have the same content, set by the same units.
abbrev pub same_holding : Holding → Holding → Bool
same_holding one other = same_content one.0 other.0 && same_setters one.1 other.1

-- ---- as text: ` (from 5)`, ` (from 5 or 7)` or ` (from 5 or 9 or others between)`

-- Writes whether there are other units between the first and the last.
abbrev pub others_text : Bool → List ℕ
others_text true = codes " or others between)"
others_text false = codes ")"

-- Writes the units after the first. `more` says whether there are others between the first and the last.
abbrev pub further_text : ℕ → ℕ → Bool → List ℕ
further_text first last more =
    if first == last then codes ")" else codes " or " ++ decimal last ++ others_text more

-- Writes the units that set a cell, if there are any.
abbrev pub from_text : Setters → List ℕ
from_text Nowhere = []
from_text (Units first last more) = codes " (from " ++ decimal first ++ further_text first last more
