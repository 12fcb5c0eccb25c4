use Rattle.std.proofs.Common.{◌*◌}
use Rattle.std.specs.Prelude.{min}
use Rattle.absmem.specs.Known.{IsSetTo}
use Rattle.absmem.specs.Members.{members, AreWords}
use Rattle.absmem.proofs.cell_set.CellSet.set_across.Given as goal

abbrev pub invariant-loop-number : goal.invariant-loop-number
invariant-loop-number l =
    AreWords l.self-inside.words × IsSetTo l.value (members l.initial.self-inside.words) (members l.self-inside.words) l.place (min l.end (64 * l.number))
