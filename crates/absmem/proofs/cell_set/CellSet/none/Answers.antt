use Rattle.absmem.proofs.Members.{members-none}
use Rattle.absmem.proofs.cell_set.CellSet.none.Goals as goal

pub returns : goal.returns
returns c = members-none
