-- Nothing was found so far.
use Rattle.std.proofs.Common.{◌≡◌}
use Rattle.std.specs.Prelude.{None}
use Rattle.object.specs.First.{first_some}
use Rattle.object.specs.Places.{row_here}
use Rattle.object.proofs.unit_places.row_of.Given as goal

abbrev pub invariant-loop-index : goal.invariant-loop-index
invariant-loop-index l = first_some (row_here l.rows l.address) l.index ≡ None
