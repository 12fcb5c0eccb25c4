use Rattle.std.proofs.Common.{◌<◌, length, arith}
use Rattle.std.proofs.lemmas.Option.{slice_get_within}
use Rattle.book.proofs.Hearing.{orders_small}
use Rattle.book.proofs.kept_facts.recall_orders.Goals as goal

pub returns : goal.returns
returns c =
    orders_small c.args.trees.now (λ i t at.
    let inside : i < length c.args.trees.now = slice_get_within c.args.trees.now i t at in
    c.loop-tree.invariant i t (omega arith) at)
