-- The machine is in the state of the loop.
use Rattle.std.proofs.Common.{length, ◌-◌, ◌≤◌}
use Rattle.object.specs.Rows.{Comes}
use Rattle.object.specs.Sources.{origins_of}
use Rattle.object.proofs.RowLemmas.{machine_at}
use Rattle.object.proofs.rows.read_rows.Given as goal

abbrev pub invariant-loop-place : goal.invariant-loop-place
invariant-loop-place l = record {
  inside : l.place ≤ length l.source.bytes.now;
  come : Comes l.header l.source.bytes.now (origins_of l.source) (machine_at l.place l.registers l.rows.items);
}

abbrev pub decreases-loop-place : goal.decreases-loop-place
decreases-loop-place l = length l.source.bytes.now - l.place
