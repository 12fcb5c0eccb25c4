use Rattle.toml.specs.View.{items_view}
use Rattle.scenario.proofs.ListLemmas.{resolved_done, resolved_further}
use Rattle.scenario.proofs.resolution.resolved_list.Goals as goal

pub loop-index-preserved : goal.loop-index-preserved
loop-index-preserved c =
    resolved_further c.args.files.now c.loop-index.done.items c.push_element.new.done.items c.loop-index.index c.args.values.now c.index-values-index.result _
    c.loop-index-test.true c.index-values-index.is c.in_ok-push_element.ensures c.loop-index.invariant

pub returns : goal.returns
returns c = resolved_done c.args.files.now c.loop-index.index c.args.values.now (items_view c.loop-index.done.items) _ c.loop-index-test.false c.loop-index.invariant
