use Rattle.std.proofs.Common.{◌≡◌, ◌++◌, drop}
use Rattle.std.specs.String.{string_bytes}
use Rattle.show_tree.specs.Rows.{rows_from}
use Rattle.show_tree.proofs.rows.put_rows.Given as goal

-- The rows so far and the remaining ones are all rows.
abbrev pub invariant-loop-place : goal.invariant-loop-place
invariant-loop-place l = string_bytes l.out ++ rows_from l.generals l.general l.place (drop l.place l.nodes) ≡ string_bytes l.fn.out ++ rows_from l.generals l.general 0 l.nodes
