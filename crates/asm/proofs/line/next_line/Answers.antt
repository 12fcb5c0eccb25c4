use Rattle.asm.proofs.KeepingLemmas.{lines_first}
use Rattle.asm.proofs.line.next_line.Goals as goal

pub returns-in-Some-clause-first : goal.returns-in-Some-clause-first
returns-in-Some-clause-first c = lines_first c.args.text.now c.piece.result.0.now c.in-Some.rest.now c.without_carriage.result.now (rw c.in-Some.is at c.piece.ensures.first) c.without_carriage.ensures
