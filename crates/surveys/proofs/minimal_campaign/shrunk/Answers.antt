use Rattle.std.proofs.Common.{Bool, subst}
use Rattle.surveys.specs.Shrinking.{Comes, IsStillBroken, IsWithoutFirst, nothing_more, whole}
use Rattle.surveys.proofs.SmallerCampaigns.{less_then, out_on, part_on, some_of, refused_here, refused_on}
use Rattle.surveys.proofs.Reducing.{walked_on}
use Rattle.std.proofs.lemmas.Result.{err_from_is_err_and}
use Rattle.surveys.proofs.minimal_campaign.shrunk.Goals as goal

pub loop-left-init : goal.loop-left-init
loop-left-init c = record {
  broken = subst (λ (x : Bool). Comes x c.args.plot) c.if-branch.false c.in_ok-comes_well.ensures.comes;
  part = whole;
  far = λ q shrinks. shrinks;
}

pub loop-left-smaller : goal.loop-left-smaller
loop-left-smaller c =
    let still = some_of c.in_ok-smaller.field-0 c.in-Some.smaller (IsStillBroken c.loop-left.left) c.in-Some.is c.in_ok-smaller.ensures.some in
    less_then c.loop-left.left c.in-Some.smaller c.in_ok-left.left still c.in_ok-left.ensures.part

pub loop-left-preserved : goal.loop-left-preserved
loop-left-preserved c =
    let still = some_of c.in_ok-smaller.field-0 c.in-Some.smaller (IsStillBroken c.loop-left.left) c.in-Some.is c.in_ok-smaller.ensures.some in
    let part = out_on c.args.plot c.loop-left.left c.in-Some.smaller c.loop-left.invariant.part still in
    record {
      broken = c.in_ok-left.ensures.broken;
      part = part_on c.args.plot c.in-Some.smaller part.1 c.in_ok-left.ensures.part;
      far = walked_on c.args.plot c.loop-left.left c.in-Some.smaller c.in_ok-left.left (some_of c.in_ok-smaller.field-0 c.in-Some.smaller (IsWithoutFirst c.loop-left.left) c.in-Some.is c.in_ok-smaller.ensures.first) c.in_ok-left.ensures.walk c.loop-left.invariant.far;
    }

pub returns-in_err-comes_well-clause-refused : goal.returns-in_err-comes_well-clause-refused
returns-in_err-comes_well-clause-refused c =
    let p = err_from_is_err_and c.from_residual.result c.from_residual.ensures.1 in
    rw (p.1, p.2) (λ other. refused_here c.args.plot c.in_err-comes_well.field-0.0 (c.in_err-comes_well.ensures.refused other))

pub returns-in_err-smaller-clause-refused : goal.returns-in_err-smaller-clause-refused
returns-in_err-smaller-clause-refused c =
    let p = err_from_is_err_and c.from_residual-in_err-smaller.result c.from_residual-in_err-smaller.ensures.1 in
    rw (p.1, p.2) (λ other. refused_on c.args.plot c.loop-left.left c.in_err-smaller.field-0.0 c.loop-left.invariant.part (c.in_err-smaller.ensures.refused other))

pub returns-in_err-left-clause-refused : goal.returns-in_err-left-clause-refused
returns-in_err-left-clause-refused c =
    let p = err_from_is_err_and c.from_residual-in_err-left.result c.from_residual-in_err-left.ensures.1 in
    let still = some_of c.in_ok-smaller.field-0 c.in-Some.smaller (IsStillBroken c.loop-left.left) c.in-Some.is c.in_ok-smaller.ensures.some in
    let part = out_on c.args.plot c.loop-left.left c.in-Some.smaller c.loop-left.invariant.part still in
    rw (p.1, p.2) (λ other. refused_on c.args.plot c.in-Some.smaller c.in_err-left.field-0.0 part.1 (c.in_err-left.ensures.refused other))

pub returns-clause-course : goal.returns-clause-course
returns-clause-course c = c.loop-left.invariant.far c.loop-left.left nothing_more

pub returns-clause-whole : goal.returns-clause-whole
returns-clause-whole c = subst (λ (x : Bool). Comes x c.args.plot) c.if-branch.false c.in_ok-comes_well.ensures.comes
