use Rattle.std.proofs.Common.{◌≡◌, ◌<◌, ◌+◌, ◌-◌, length, ◌∙◌, arith, add-one}
use Rattle.label.specs.Labels.{labels}
use Rattle.resolve.proofs.Decisions.{first-there}
use Rattle.resolve.proofs.Rising.{level-om, level-long, first-om}
use Rattle.resolve.proofs.level.resolve_by_levels.Goals as goal

pub loop-k-preserved : goal.loop-k-preserved
loop-k-preserved g c =
    let bound = c.bound.ensures in
    let end = c.bound-k-end.ensures in
    let k : c.loop-k.k < c.bound-k-end.result = c.loop-k-test.true in
    let size : c.bound.result - c.loop-k.k ≡ c.args.tree.now.bound + 1 - (c.loop-k.k + 1) = omega arith in
    let next : c.args.tree.now.bound + 1 - c.loop-k.k ≡ (c.bound.result - c.loop-k.k) + 1 = omega arith in
    record {
      long = rw (← size) (level-long (g.C.Combine.combined c.args.rule.now) c.args.tree.now (c.bound.result - c.loop-k.k) c.as_slice.result.now c.in_ok-below-2.below.items c.in_ok-below-2.ensures);
      decided = λ M full. rw (← size, add-one) (level-om (g.C.Combine.combined c.args.rule.now) c.args.tree.now M c.loop-k.k (c.bound.result - c.loop-k.k) c.as_slice.result.now c.in_ok-below-2.below.items c.space-space.ensures.kind full (omega arith) (omega arith)
          (c.as_slice.ensures.value ∙ rw next at (c.loop-k.invariant.decided M full)) c.in_ok-below-2.ensures);
    }

pub index-requires : goal.index-requires
index-requires g c =
    let end = c.bound-k-end.ensures in
    let last = c.loop-k-test.false in
    let upper = c.loop-k.auto.k-end in
    let one : c.args.tree.now.bound + 1 - c.loop-k.k ≡ 1 = omega arith in
    let long : length c.loop-k.below.items ≡ length (labels c.args.tree.now.generals c.args.tree.now.commander c.args.tree.now.general 1) = rw one at c.loop-k.invariant.long in
    let there : 0 < length (labels c.args.tree.now.generals c.args.tree.now.commander c.args.tree.now.general 1) = first-there c.args.tree.now c.space-space.ensures.kind in
    omega arith

pub returns : goal.returns
returns g c =
    let end = c.bound-k-end.ensures in
    let last = c.loop-k-test.false in
    let upper = c.loop-k.auto.k-end in
    let one : c.args.tree.now.bound + 1 - c.loop-k.k ≡ 1 = omega arith in
    let all : c.loop-k.k ≡ c.args.tree.now.bound = omega arith in
    λ M full. first-om (g.C.Combine.combined c.args.rule.now) c.args.tree.now M c.args.tree.now.bound c.index.result.now c.loop-k.below.items c.space-space.ensures.kind (rw (one, all) at (c.loop-k.invariant.decided M full)) c.index.ensures
