use Rattle.text.proofs.PartsLemmas.{line_first}
use Rattle.text.proofs.parts.line.Goals as goal

pub returns-in-Some-clause-first : goal.returns-in-Some-clause-first
returns-in-Some-clause-first c = line_first c.args.bytes.now c.piece.result.0.now c.in-Some.rest.now (rw c.in-Some.is at c.piece.ensures.first)
