use Rattle.std.proofs.Common.{◌∙◌, arith, refl}
use Rattle.surveys.specs.Shrinking.{all_end, whole}
use Rattle.surveys.proofs.SmallerCampaigns.{part_on, refused_on}
use Rattle.surveys.proofs.Reducing.{one_more, walk_keeps}
use Rattle.std.proofs.lemmas.Grind.{common_steps}
use Rattle.std.proofs.lemmas.Result.{err_from_is_err_and}
use Rattle.surveys.proofs.reductions.fewest_lies.Goals as goal

pub loop-place-init : goal.loop-place-init
loop-place-init c = record { broken = c.requires; part = whole; same = refl; far = λ q walk. walk }

pub loop-place-preserved : goal.loop-place-preserved
loop-place-preserved c = record {
  broken = c.in_ok-left.ensures.broken;
  part = part_on c.args.plot c.loop-place.left c.loop-place.invariant.part c.in_ok-left.ensures.part;
  same = walk_keeps c.loop-place.place c.in_ok-left.left c.in_ok-left.ensures.walk ∙ c.loop-place.invariant.same;
  far = one_more c.args.plot c.loop-place.left c.in_ok-left.left c.loop-place.place (grind (arith, common_steps)) c.in_ok-left.ensures.walk c.loop-place.invariant.far;
}

pub returns-clause-walk : goal.returns-clause-walk
returns-clause-walk c = c.loop-place.invariant.far c.loop-place.left (all_end c.loop-place.place (grind (arith, common_steps)))

pub returns-in_err-left-clause-refused : goal.returns-in_err-left-clause-refused
returns-in_err-left-clause-refused c =
    let p = err_from_is_err_and c.from_residual.result c.from_residual.ensures.1 in
    rw (p.1, p.2) (λ other. refused_on c.args.plot c.loop-place.left c.in_err-left.field-0.0 c.loop-place.invariant.part (c.in_err-left.ensures.refused other))
