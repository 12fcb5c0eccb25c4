use Rattle.std.proofs.Common.{◌≡◌, ℕ, length, Some}
use Rattle.std.specs.Prelude.{slice_get}
use Rattle.reaching.specs.declared.changes.Column.{Column}
use Rattle.reaching.specs.Columns.{IsColumn}
use Rattle.reaching.proofs.changes.columns.Given as goal

abbrev pub invariant-loop-cell : goal.invariant-loop-cell
invariant-loop-cell l = record {
  size : length l.columns.items ≡ l.cell;
  so_far : (cell : ℕ) (column : Column) → slice_get l.columns.items cell ≡ Some column → IsColumn l.program (slice_get l.states) cell column;
}
