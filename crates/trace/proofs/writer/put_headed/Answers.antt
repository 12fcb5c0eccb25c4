use Rattle.trace.proofs.WrittenLemmas.{then_wrote}
use Rattle.trace.proofs.writer.put_headed.Goals as goal

pub returns : goal.returns
returns g c = then_wrote c.put_all.ensures c.put_next.ensures
