use Rattle.asm.proofs.KeepingLemmas.{source_put}
use Rattle.asm.proofs.reader.put_source.Goals as goal

pub returns-in_ok-push_kept-clause-read : goal.returns-in_ok-push_kept-clause-read
returns-in_ok-push_kept-clause-read c = λ r k. source_put c.args.reading.now c.push_kept.new.sources r _ c.units.result k c.units.ensures.units c.if-reading-le-MOST_UNITS.true c.in_ok-push_kept.ensures.ok
