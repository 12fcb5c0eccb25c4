use Rattle.std.proofs.Common.{◌*◌}
use Rattle.std.specs.Prelude.{min}
use Rattle.absmem.specs.Members.{members}
use Rattle.absmem.proofs.Members.{HasCells}
use Rattle.absmem.proofs.cell_set.CellSet.has_across.Given as goal

abbrev pub invariant-loop-number : goal.invariant-loop-number
invariant-loop-number l = HasCells (members l.self-inside.words) l.place (min l.end (64 * l.number))
