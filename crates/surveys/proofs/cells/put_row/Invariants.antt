use Rattle.std.proofs.Common.{◌≡◌, ◌++◌, take}
use Rattle.std.specs.Prelude.{flat_map}
use Rattle.std.specs.String.{string_bytes}
use Rattle.surveys.specs.Tables.{cell_text}
use Rattle.surveys.proofs.cells.put_row.Given as goal

abbrev pub invariant-loop-cell : goal.invariant-loop-cell
invariant-loop-cell l = string_bytes l.out ≡ string_bytes l.fn.out ++ flat_map cell_text (take l.cell-index l.cells)
