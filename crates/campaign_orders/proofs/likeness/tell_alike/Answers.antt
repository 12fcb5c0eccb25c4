-- One more letter is compared, and in the end all.
use Rattle.std.proofs.Common.{arith}
use Rattle.campaign_orders.proofs.Comparing.{tell_more, tell_all}
use Rattle.campaign_orders.proofs.likeness.tell_alike.Goals as goal

pub returns : goal.returns
returns c h = tell_all c.loop-place.place c.args.letters.now c.args.others.now (omega arith) (omega arith) c.loop-place.invariant

pub loop-place-preserved : goal.loop-place-preserved
loop-place-preserved c =
    tell_more c.loop-place.place c.args.letters.now c.args.others.now c.index-letters-place.result c.index-others-place.result c.loop-place-test.true (omega arith) c.index-letters-place.is c.index-others-place.is c.loop-place.invariant
    (c.tells_alike.ensures.general c.if-not-tells_alike.false) (c.tells_alike.ensures.outbox c.if-not-tells_alike.false)
