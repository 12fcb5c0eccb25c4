use Rattle.trace.proofs.WrittenLemmas.{all-written}
use Rattle.trace.proofs.chronicles.write_verdict.Goals as goal

pub returns-clause-written : goal.returns-clause-written
returns-clause-written g c = all-written c.written.result c.written.ensures.ok c.put_verdict.ensures
