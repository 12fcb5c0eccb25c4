-- Nothing was found so far.
use Rattle.std.proofs.Common.{◌≡◌}
use Rattle.std.specs.Prelude.{None}
use Rattle.object.specs.First.{first_some}
use Rattle.object.specs.Symbol.{asked, entry_here}
use Rattle.object.proofs.entry_search.first_entry.Given as goal

abbrev pub invariant-loop-index : goal.invariant-loop-index
invariant-loop-index l = first_some (entry_here l.table l.symbols l.strings (asked l.name) l.least) l.index ≡ None
