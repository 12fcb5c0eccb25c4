-- One more tree is found.
use Rattle.std.proofs.Common.{◌<◌, ◌∙◌, length, refl, arith}
use Rattle.round.proofs.TreeTables.{table_all, table_from, table_next}
use Rattle.round.proofs.delivery.find_trees.Goals as goal

pub loop-index-init : goal.loop-index-init
loop-index-init c = table_from c.args.trees.now _ refl

pub loop-index-preserved : goal.loop-index-preserved
loop-index-preserved c =
    let trees = c.args.trees.now in let i = c.loop-index.index in
    let lt : i < length trees = c.loop-index-test.true in
    table_next trees i c.loop-index.tree_indices c.index-trees-index.result c.from.result c.requires c.loop-index.invariant lt c.index-trees-index.is
    (c.from.ensures ∙ c.space-lieutenant.ensures.general) (let b = c.space-lieutenant.ensures.kind.general in let n = c.space-lieutenant.ensures.kind.few in let e = c.from.ensures ∙ c.space-lieutenant.ensures.general in omega arith)

pub returns : goal.returns
returns c = table_all c.args.trees.now c.loop-index.index c.loop-index.tree_indices c.loop-index.invariant (let l = c.loop-index-test.false in omega arith)
