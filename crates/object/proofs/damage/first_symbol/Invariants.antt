-- Nothing was found so far.
use Rattle.std.proofs.Common.{◌≡◌}
use Rattle.std.specs.Prelude.{None}
use Rattle.object.specs.First.{first_some}
use Rattle.object.specs.Damage.{symbol_damage}
use Rattle.object.proofs.damage.first_symbol.Given as goal

abbrev pub invariant-loop-index : goal.invariant-loop-index
invariant-loop-index l = first_some (symbol_damage l.table l.symbols l.strings) l.index ≡ None
