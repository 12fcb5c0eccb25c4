use Rattle.std.proofs.Common.{w16}
use Rattle.std.proofs.lemmas.Int.{to_z-of_z}
use Rattle.verify.proofs.StepReasons.{value_left}
use Rattle.verify.proofs.steps.store_value.Goals as goal

pub returns : goal.returns
returns c =
    value_left c.args.size c.args.base.now c.args.value.now _ c.args.offset c.args.stack.now c.store.new.stack c.store.result (to_z-of_z w16 c.args.offset c.ranges.offset)
    c.in_ok-check_set.ensures c.in_ok-check_set-2.ensures c.store.ensures
