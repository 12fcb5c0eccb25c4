use Rattle.std.proofs.Common.{ℕ, ◌≡◌, arith}
use Rattle.std.proofs.lemmas.Grind.{common_steps}
use Rattle.surveys.specs.Shrinking.{ComesWell, IsStillBroken, without_traitor}
use Rattle.surveys.proofs.SmallerCampaigns.{none_of, some_of, upto_more}
use Rattle.surveys.proofs.reductions.fewer_traitors.Goals as goal

pub loop-place-preserved : goal.loop-place-preserved
loop-place-preserved c = upto_more (λ (place : ℕ). ComesWell (without_traitor c.args.plot.now place)) c.loop-place.place c.loop-place.invariant (none_of _ _ c.in-None.is c.in_ok-less.ensures.none)

pub returns-in-Some-clause-first : goal.returns-in-Some-clause-first
returns-in-Some-clause-first c = record {
  place = c.loop-place.place;
  within = grind (arith, common_steps);
  less = some_of _ c.in-Some.less (λ q. q ≡ without_traitor c.args.plot.now c.loop-place.place) c.in-Some.is c.in_ok-less.ensures.exact;
  broken = (some_of _ c.in-Some.less (IsStillBroken c.args.plot.now) c.in-Some.is c.in_ok-less.ensures.some).broken;
  needed = c.loop-place.invariant;
}
