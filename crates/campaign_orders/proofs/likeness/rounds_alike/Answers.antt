-- One more round is compared, and in the end all.
use Rattle.std.proofs.Common.{List, subst, arith}
use Rattle.round.specs.Letters.{Letter}
use Rattle.campaign_orders.specs.Merging.{TellAlike}
use Rattle.campaign_orders.proofs.Comparing.{rounds_more, rounds_all}
use Rattle.campaign_orders.proofs.likeness.rounds_alike.Goals as goal

pub returns : goal.returns
returns c h = rounds_all c.loop-place.place c.args.rounds.now c.args.others.now (omega arith) (omega arith) c.loop-place.invariant

pub loop-place-preserved : goal.loop-place-preserved
loop-place-preserved c =
    let told = c.tell_alike.ensures c.if-not-tell_alike.false in
    let left = subst (λ (l : List Letter). TellAlike l c.letters-in-loop-place.result.now) c.letters.ensures told in
    let both = subst (λ (l : List Letter). TellAlike c.index-rounds-place.result l) c.letters-in-loop-place.ensures left in
    rounds_more c.loop-place.place c.args.rounds.now c.args.others.now c.index-rounds-place.result c.index-others-place.result c.loop-place-test.true (omega arith) c.index-rounds-place.is c.index-others-place.is c.loop-place.invariant both
