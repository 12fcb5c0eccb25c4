use Rattle.surveys.specs.Shrinking.{IsStillBroken, traitors_end, whole, without_traitor}
use Rattle.std.proofs.Common.{◌≡◌, arith}
use Rattle.surveys.proofs.SmallerCampaigns.{none_of, out_on, some_of, refused_on}
use Rattle.surveys.proofs.Reducing.{fewer_left, with_one, without_one}
use Rattle.std.proofs.lemmas.Grind.{common_steps}
use Rattle.std.proofs.lemmas.Result.{err_from_is_err_and}
use Rattle.surveys.proofs.reductions.fewest_traitors.Goals as goal

pub loop-place-init : goal.loop-place-init
loop-place-init c = record { broken = c.requires; part = whole; far = λ q walk. walk }

pub loop-place-preserved-in-Some : goal.loop-place-preserved-in-Some
loop-place-preserved-in-Some c =
    let next = out_on c.args.plot c.loop-place.left c.in-Some.less c.loop-place.invariant.part (some_of _ c.in-Some.less (IsStillBroken c.loop-place.left) c.in-Some.is c.in_ok-less.ensures.some) in
    record {
      broken = next.0;
      part = next.1;
      far = without_one c.args.plot c.loop-place.left c.in-Some.less c.loop-place.place (grind (arith, common_steps))
          (some_of _ c.in-Some.less (λ q. q ≡ without_traitor c.loop-place.left c.loop-place.place) c.in-Some.is c.in_ok-less.ensures.exact) next.0 c.loop-place.invariant.far;
    }

pub loop-place-preserved : goal.loop-place-preserved
loop-place-preserved c = record {
  broken = c.loop-place.invariant.broken;
  part = c.loop-place.invariant.part;
  far = with_one c.args.plot c.loop-place.left c.loop-place.place (grind (arith, common_steps)) (none_of _ _ c.in-None.is c.in_ok-less.ensures.none) c.loop-place.invariant.far;
}

pub loop-place-smaller-in-Some : goal.loop-place-smaller-in-Some
loop-place-smaller-in-Some c =
    fewer_left c.loop-place.left c.in-Some.less c.loop-place.place (grind (arith, common_steps))
    (some_of _ c.in-Some.less (λ q. q ≡ without_traitor c.loop-place.left c.loop-place.place) c.in-Some.is c.in_ok-less.ensures.exact)

pub returns-clause-walk : goal.returns-clause-walk
returns-clause-walk c = c.loop-place.invariant.far c.loop-place.left (traitors_end c.loop-place.place (grind (arith, common_steps)))

pub returns-in_err-less-clause-refused : goal.returns-in_err-less-clause-refused
returns-in_err-less-clause-refused c =
    let p = err_from_is_err_and c.from_residual.result c.from_residual.ensures.1 in
    rw (p.1, p.2) (λ other. refused_on c.args.plot c.loop-place.left c.in_err-less.field-0.0 c.loop-place.invariant.part (c.in_err-less.ensures.refused other))
