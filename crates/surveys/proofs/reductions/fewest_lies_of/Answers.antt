use Rattle.surveys.specs.Shrinking.{IsStillBroken, lies_end, whole, without_lie}
use Rattle.std.proofs.Common.{◌≡◌, arith}
use Rattle.surveys.proofs.SmallerCampaigns.{none_of, out_on, some_of, refused_on}
use Rattle.surveys.proofs.Reducing.{fewer_lies_left, still_there, with_lie_of, without_lie_of}
use Rattle.std.proofs.lemmas.Grind.{common_steps}
use Rattle.std.proofs.lemmas.Result.{err_from_is_err_and}
use Rattle.surveys.proofs.reductions.fewest_lies_of.Goals as goal

pub loop-index-init : goal.loop-index-init
loop-index-init c = record { broken = c.requires.broken; part = whole; there = c.requires.place; far = λ q walk. walk }

pub loop-index-preserved-in-Some : goal.loop-index-preserved-in-Some
loop-index-preserved-in-Some c =
    let next = out_on c.args.plot c.loop-index.left c.in-Some.less c.loop-index.invariant.part (some_of _ c.in-Some.less (IsStillBroken c.loop-index.left) c.in-Some.is c.in_ok-less.ensures.some) in
    let less = some_of _ c.in-Some.less (λ q. q ≡ without_lie c.loop-index.left c.args.place c.loop-index.index) c.in-Some.is c.in_ok-less.ensures.exact in
    record {
      broken = next.0;
      part = next.1;
      there = still_there c.loop-index.left c.in-Some.less c.args.place c.loop-index.index c.loop-index.invariant.there less;
      far = without_lie_of c.args.plot c.loop-index.left c.in-Some.less c.args.place c.loop-index.index (grind (arith, common_steps)) less next.0 c.loop-index.invariant.far;
    }

pub loop-index-preserved : goal.loop-index-preserved
loop-index-preserved c = record {
  broken = c.loop-index.invariant.broken;
  part = c.loop-index.invariant.part;
  there = c.loop-index.invariant.there;
  far = with_lie_of c.args.plot c.loop-index.left c.args.place c.loop-index.index (grind (arith, common_steps)) (none_of _ _ c.in-None.is c.in_ok-less.ensures.none) c.loop-index.invariant.far;
}

pub loop-index-smaller-in-Some : goal.loop-index-smaller-in-Some
loop-index-smaller-in-Some c =
    fewer_lies_left c.loop-index.left c.in-Some.less c.args.place c.loop-index.index c.loop-index.invariant.there (grind (arith, common_steps))
    (some_of _ c.in-Some.less (λ q. q ≡ without_lie c.loop-index.left c.args.place c.loop-index.index) c.in-Some.is c.in_ok-less.ensures.exact)

pub returns-clause-walk : goal.returns-clause-walk
returns-clause-walk c = c.loop-index.invariant.far c.loop-index.left (lies_end c.loop-index.index (grind (arith, common_steps)))

pub returns-in_err-less-clause-refused : goal.returns-in_err-less-clause-refused
returns-in_err-less-clause-refused c =
    let p = err_from_is_err_and c.from_residual.result c.from_residual.ensures.1 in
    rw (p.1, p.2) (λ other. refused_on c.args.plot c.loop-index.left c.in_err-less.field-0.0 c.loop-index.invariant.part (c.in_err-less.ensures.refused other))
