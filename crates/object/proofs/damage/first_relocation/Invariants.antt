-- Nothing was found so far.
use Rattle.std.proofs.Common.{◌≡◌}
use Rattle.std.specs.Prelude.{None}
use Rattle.object.specs.First.{first_some}
use Rattle.object.specs.Damage.{relocation_damage}
use Rattle.object.proofs.damage.first_relocation.Given as goal

abbrev pub invariant-loop-index : goal.invariant-loop-index
invariant-loop-index l = first_some (relocation_damage l.section l.symbols l.size l.relocations) l.index ≡ None
