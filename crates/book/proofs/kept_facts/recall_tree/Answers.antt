use Rattle.std.proofs.Common.{◌+◌, arith}
use Rattle.tree.specs.LieutenantTree.{level_of}
use Rattle.book.proofs.Hearing.{levels_small, one_more_small, small_level}
use Rattle.book.proofs.kept_facts.recall_tree.Goals as goal

pub loop-size-preserved : goal.loop-size-preserved
loop-size-preserved c =
    one_more_small c.args.tree.now c.loop-size.size c.loop-size.invariant (small_level (level_of c.args.tree.now (c.loop-size.size + 1)) c.level.result.now c.level.ensures.value c.recall_level.ensures)

pub returns : goal.returns
returns c =
    let bound = c.bound-size-end.ensures in
    levels_small c.args.tree.now c.space-space.ensures.filled.0 c.space-space.ensures.filled.1 (λ k some within. c.loop-size.invariant k some (omega arith))
