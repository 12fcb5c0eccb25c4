-- One more part is copied.
use Rattle.std.proofs.Common.{◌∙◌}
use Rattle.std.specs.Arc.{arc_value}
use Rattle.campaign_orders.proofs.Sharing.{copied_more}
use Rattle.campaign_orders.proofs.open_round.marked.Goals as goal

pub loop-part-preserved : goal.loop-part-preserved
loop-part-preserved c =
    copied_more arc_value c.loop-part.copies.items c.push.new.self.items c.in_ok-new.field-0 c.args.parts.now c.loop-part.part-index c.part-item.result c.loop-part-test.true c.part-item.is c.in_ok-push.ensures.items
    (c.in_ok-new.ensures.ok ∙ c.in_ok-copied.ensures) c.loop-part.invariant
