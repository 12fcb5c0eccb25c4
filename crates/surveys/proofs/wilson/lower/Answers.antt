use Rattle.std.proofs.Common.{ℕ, ◌≡◌, arith, sym}
use Rattle.surveys.specs.Wilson.{is_below}
use Rattle.surveys.proofs.Intervals.{greatest_more, lower_is, lower_same, none_greatest}
use Rattle.surveys.proofs.wilson.lower.Goals as goal

pub loop-share-init : goal.loop-share-init
loop-share-init c = none_greatest (is_below c.args.campaigns c.args.failed)

pub loop-share-preserved : goal.loop-share-preserved
loop-share-preserved c =
    rw (c.later-found.ensures, c.is_below.ensures, c.loop-share.invariant) (sym (greatest_more (is_below c.args.campaigns c.args.failed) c.loop-share.share))

pub returns-clause-same : goal.returns-clause-same
returns-clause-same c =
    let h = c.loop-share-test.false in
    lower_same c.args.campaigns c.args.failed c.loop-share.share c.loop-share.found (omega arith) c.loop-share.invariant

pub returns-clause-lower : goal.returns-clause-lower
returns-clause-lower c =
    let h = c.loop-share-test.false in
    lower_is c.args.campaigns c.args.failed c.loop-share.share c.loop-share.found (omega arith) c.loop-share.invariant

pub returns-clause-most : goal.returns-clause-most
returns-clause-most c =
    let h = c.loop-share-test.false in
    let ends = lower_is c.args.campaigns c.args.failed c.loop-share.share c.loop-share.found (omega arith) c.loop-share.invariant in
    ends.most
