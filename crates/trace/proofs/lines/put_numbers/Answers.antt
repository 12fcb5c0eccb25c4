use Rattle.std.specs.Prelude.{decimal}
use Rattle.trace.proofs.WrittenLemmas.{one_further}
use Rattle.trace.proofs.lines.put_numbers.Goals as goal

pub loop-number-preserved : goal.loop-number-preserved
loop-number-preserved g c = one_further decimal c.args.numbers.now c.loop-number.number-index _ c.loop-number-test.true c.loop-number.invariant c.put_next.ensures
