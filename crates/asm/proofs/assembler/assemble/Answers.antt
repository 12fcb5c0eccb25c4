use Rattle.asm.proofs.SaidLemmas.{gathered_well}
use Rattle.asm.proofs.assembler.assemble.Goals as goal

pub finish-requires-clause-well : goal.finish-requires-clause-well
finish-requires-clause-well c = gathered_well c.in-Ok.reading _ c.in-Ok.ensures.read.0 c.in-Ok.ensures.read.1 c.in-Ok.ensures.read.2
