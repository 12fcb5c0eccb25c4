use Rattle.trace.proofs.WrittenLemmas.{then_wrote}
use Rattle.trace.proofs.lines.put_words.Goals as goal

pub returns : goal.returns
returns g c = then_wrote (then_wrote c.put_all.ensures c.put_all-2.ensures) c.put_numbers.ensures
