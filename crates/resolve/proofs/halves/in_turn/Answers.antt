use Rattle.resolve.specs.Decided.{Decides}
use Rattle.resolve.proofs.Joining.{zipped_on}
use Rattle.resolve.proofs.halves.in_turn.Goals as goal

pub loop-tree-preserved : goal.loop-tree-preserved
loop-tree-preserved g c =
    zipped_on (Decides (g.C.Combine.combined c.args.rule.now)) c.args.trees.now c.loop-tree.tree-index c.tree-item.result c.loop-tree.decisions.items c.push.new.self.items c.in_ok-resolve_by_levels.field-0 c.loop-tree-test.true c.tree-item.is c.loop-tree.invariant c.in_ok-resolve_by_levels.ensures c.in_ok-push.ensures.items
