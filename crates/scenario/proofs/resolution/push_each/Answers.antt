use Rattle.std.proofs.Common.{ap, ◌∙◌}
use Rattle.toml.proofs.Views.{view-Table}
use Rattle.toml.specs.Data.{table}
use Rattle.toml.specs.View.{items_view, table_view}
use Rattle.scenario.proofs.ListLemmas.{each_done, each_further}
use Rattle.scenario.proofs.resolution.push_each.Goals as goal

pub loop-index-preserved : goal.loop-index-preserved
loop-index-preserved c =
    each_further c.args.files.now (table_view c.args.table.now) (items_view c.loop-index.done.items) (items_view c.push.new.done.items) _ c.loop-index.index c.args.generals.now c.index-generals-index.result _
    c.loop-index-test.true c.index-generals-index.is c.in_ok-push.ensures (view-Table c.in_ok-one.one ∙ ap table c.in_ok-one.ensures) c.loop-index.invariant

pub returns : goal.returns
returns c = each_done c.args.files.now (table_view c.args.table.now) c.loop-index.index c.args.generals.now (items_view c.loop-index.done.items) _ c.loop-index-test.false c.loop-index.invariant
