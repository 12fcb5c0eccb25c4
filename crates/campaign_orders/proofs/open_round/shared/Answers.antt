-- One more part is shared.
use Rattle.std.specs.Arc.{arc_value}
use Rattle.std.proofs.Common.{arith}
use Rattle.campaign_orders.proofs.Sharing.{shared_more, shared_all}
use Rattle.campaign_orders.proofs.open_round.shared.Goals as goal

pub loop-part-preserved : goal.loop-part-preserved
loop-part-preserved c =
    shared_more arc_value c.loop-part.copies.items c.push.new.self.items c.in_ok-clone.field-0 c.args.parts.now c.loop-part.part-index c.part-item.result c.loop-part-test.true c.part-item.is c.in_ok-push.ensures.items c.in_ok-clone.ensures.cases c.loop-part.invariant

pub returns : goal.returns
returns c = shared_all arc_value c.loop-part.copies.items c.args.parts.now c.loop-part.part-index (omega arith) c.loop-part.invariant
