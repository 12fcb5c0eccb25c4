use Rattle.book.proofs.Hearing.{value_is}
use Rattle.book.proofs.trees.value.Goals as goal

pub returns : goal.returns
returns c =
    let filled = c.space-space.ensures.filled in
    value_is c.args.tree.now filled.0 c.args.label.now c.value.result c.space-space.ensures.kind filled.1 (c.value.ensures.told filled.0 filled.1) c.value.ensures.strange
