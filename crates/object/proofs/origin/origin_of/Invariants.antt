-- Nothing was found so far.
use Rattle.std.proofs.Common.{◌≡◌}
use Rattle.std.specs.Prelude.{None}
use Rattle.object.specs.First.{first_some}
use Rattle.object.specs.Origin.{origin_here}
use Rattle.object.proofs.origin.origin_of.Given as goal

abbrev pub invariant-loop-index : goal.invariant-loop-index
invariant-loop-index l = first_some (origin_here l.bytes l.symbols l.section l.size l.relocations l.place) l.index ≡ None
