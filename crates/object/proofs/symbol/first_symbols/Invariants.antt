-- Nothing was found so far.
use Rattle.std.proofs.Common.{◌≡◌}
use Rattle.std.specs.Prelude.{None}
use Rattle.object.specs.First.{first_some}
use Rattle.object.specs.Symbol.{symbols_here}
use Rattle.object.proofs.symbol.first_symbols.Given as goal

abbrev pub invariant-loop-index : goal.invariant-loop-index
invariant-loop-index l = first_some (symbols_here l.table) l.index ≡ None
