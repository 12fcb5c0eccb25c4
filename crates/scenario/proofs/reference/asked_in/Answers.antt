use Rattle.scenario.proofs.ListLemmas.{asked_done, asked_further}
use Rattle.scenario.proofs.reference.asked_in.Goals as goal

pub loop-index-preserved : goal.loop-index-preserved
loop-index-preserved c =
    asked_further c.loop-index.done.items c.ask_element.new.done.items c.loop-index.index c.args.values.now c.index-values-index.result _
    c.loop-index-test.true c.index-values-index.is c.in_ok-ask_element.ensures c.loop-index.invariant

pub returns : goal.returns
returns c = asked_done c.loop-index.index c.args.values.now c.loop-index.done.items _ c.loop-index-test.false c.loop-index.invariant
