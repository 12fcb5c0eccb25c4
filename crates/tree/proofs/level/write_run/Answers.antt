use Rattle.std.proofs.Common.{[], ◌∷◌, ◌++◌}
use Rattle.tree.proofs.Runs.{answers-more, answers-none, run-none}
use Rattle.tree.proofs.Keeping.{order-more, flag-more}
use Rattle.tree.proofs.level.write_run.Goals as goal

pub loop-place-init : goal.loop-place-init
loop-place-init g c = ([], answers-none _, run-none c.args.first c.args.orders.now, run-none c.args.first c.args.told.now)

pub loop-place-preserved : goal.loop-place-preserved
loop-place-preserved g c =
    let vs = c.loop-place.invariant.0 in
    let answers = c.loop-place.invariant.1 in (
      vs ++ c.value-answer.result ∷ [],
      answers-more _ c.loop-place.place vs c.value-answer.result answers c.value-answer.ensures,
      order-more c.args.first c.loop-place.place vs c.args.orders.now c.loop-place.orders c.value-answer.result c.unwrap_or.result answers.long c.loop-place.invariant.2 c.unwrap_or.ensures,
      flag-more c.args.first c.loop-place.place vs c.args.told.now c.loop-place.told c.value-answer.result c.is_some.result answers.long c.loop-place.invariant.3 c.is_some.ensures,
    )
