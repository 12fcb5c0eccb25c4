-- Nothing was found so far.
use Rattle.std.proofs.Common.{◌≡◌}
use Rattle.std.specs.Prelude.{None}
use Rattle.object.specs.First.{first_some}
use Rattle.object.specs.Damage.{relocations_damage}
use Rattle.object.proofs.damage.first_relocations.Given as goal

abbrev pub invariant-loop-index : goal.invariant-loop-index
invariant-loop-index l = first_some (relocations_damage l.object l.table l.home l.symbols) l.index ≡ None
