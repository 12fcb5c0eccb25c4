use Rattle.std.proofs.Common.{◌≡◌, ◌*◌, ◌-◌, take, drop, replicate, length}
use Rattle.std.specs.Prelude.{Ok}
use Rattle.semantics.specs.Memory.{region_cells}
use Rattle.mem.proofs.InARow.{row_in}
use Rattle.mem.proofs.rows.load_row.Given as goal

abbrev pub invariant-loop-i : goal.invariant-loop-i
invariant-loop-i l = record {
  long : length l.row ≡ 13;
  rest : drop l.i l.row ≡ replicate (13 - l.i) 0;
  so_far : row_in (take (4 * l.i) (drop l.place (region_cells l.context l.stack l.region))) ≡ Ok (take l.i l.row);
}
