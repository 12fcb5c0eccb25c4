use Rattle.std.proofs.Common.{w16}
use Rattle.std.proofs.lemmas.Int.{to_z-of_z}
use Rattle.verify.specs.Registers.{known_at}
use Rattle.verify.proofs.StepReasons.{load_left}
use Rattle.verify.proofs.steps.load.Goals as goal

pub returns : goal.returns
returns c =
    load_left c.args.size c.at-pointer.result.now (known_at c.args.state.now.registers c.args.base) c.in_ok-region.region c.in_ok-region.offsets c.args.dst c.number.result _ c.args.offset
    c.args.state.now c.load_into.result c.load_into.new.register c.at-pointer.ensures c.in_ok-region.ensures (to_z-of_z w16 c.args.offset c.ranges.offset) c.number.ensures.same
    c.in_ok-check_writable.ensures c.load_into.ensures
