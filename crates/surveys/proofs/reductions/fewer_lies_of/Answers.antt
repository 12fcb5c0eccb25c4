use Rattle.std.proofs.Common.{ℕ, ◌≡◌, arith}
use Rattle.std.proofs.lemmas.Grind.{common_steps}
use Rattle.surveys.specs.Shrinking.{ComesWell, IsStillBroken, without_lie}
use Rattle.surveys.proofs.SmallerCampaigns.{none_of, some_of, upto_more}
use Rattle.surveys.proofs.reductions.fewer_lies_of.Goals as goal

pub loop-index-preserved : goal.loop-index-preserved
loop-index-preserved c = upto_more (λ (index : ℕ). ComesWell (without_lie c.args.plot.now c.args.place index)) c.loop-index.index c.loop-index.invariant (none_of _ _ c.in-None.is c.in_ok-less.ensures.none)

pub returns-in-Some-clause-first : goal.returns-in-Some-clause-first
returns-in-Some-clause-first c = record {
  index = c.loop-index.index;
  within = grind (arith, common_steps);
  less = some_of _ c.in-Some.less (λ q. q ≡ without_lie c.args.plot.now c.args.place c.loop-index.index) c.in-Some.is c.in_ok-less.ensures.exact;
  broken = (some_of _ c.in-Some.less (IsStillBroken c.args.plot.now) c.in-Some.is c.in_ok-less.ensures.some).broken;
  needed = c.loop-index.invariant;
}
