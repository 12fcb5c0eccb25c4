-- One more part is compared, and in the end all.
use Rattle.std.proofs.Common.{◌∙◌, sym, arith}
use Rattle.std.specs.Arc.{arc_value}
use Rattle.campaign_orders.proofs.Sharing.{same_more, same_all}
use Rattle.campaign_orders.proofs.likeness.same_shared.Goals as goal

pub returns : goal.returns
returns c h = same_all arc_value c.args.parts.now c.args.others.now c.loop-place.place (omega arith) (omega arith) c.loop-place.invariant

pub loop-place-preserved : goal.loop-place-preserved
loop-place-preserved c =
    let same = c.same_marked.ensures c.if-not-same_marked.false in
    same_more arc_value c.args.parts.now c.args.others.now c.loop-place.place c.index-parts-place.result c.index-others-place.result c.loop-place-test.true (omega arith) c.index-parts-place.is c.index-others-place.is
    (sym c.deref.ensures ∙ (same ∙ c.deref-in-loop-place.ensures)) c.loop-place.invariant
