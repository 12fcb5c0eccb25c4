-- There is only one tree.
use Rattle.std.proofs.Common.{◌<◌, length, ap, arith}
use Rattle.std.specs.Prelude.{slice_get}
use Rattle.std.proofs.lemmas.Option.{slice_get-get_or}
use Rattle.round.proofs.TreeTables.{alone_apart}
use Rattle.round.proofs.delivery.deliver.Goals as goal

pub deliver_to_all-requires-clause-apart : goal.deliver_to_all-requires-clause-apart
deliver_to_all-requires-clause-apart c = rw c.from_mut.ensures.value (alone_apart c.args.tree.now)

pub returns-clause-filled : goal.returns-clause-filled
returns-clause-filled c =
    let some : 0 < length c.deliver_to_all.new.trees = let n = c.deliver_to_all.ensures.count in let l = c.from_mut.ensures.len in omega arith in
    (c.deliver_to_all.ensures.each 0 c.args.tree.now _ (ap (λ ts. slice_get ts 0) c.from_mut.ensures.value) (slice_get-get_or c.deliver_to_all.new.trees 0 c.args.tree.now some)).filled

pub returns-clause-same : goal.returns-clause-same
returns-clause-same c =
    let some : 0 < length c.deliver_to_all.new.trees = let n = c.deliver_to_all.ensures.count in let l = c.from_mut.ensures.len in omega arith in
    (c.deliver_to_all.ensures.each 0 c.args.tree.now _ (ap (λ ts. slice_get ts 0) c.from_mut.ensures.value) (slice_get-get_or c.deliver_to_all.new.trees 0 c.args.tree.now some)).same
