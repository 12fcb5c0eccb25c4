use Rattle.std.proofs.Common.{ℕ, ◌<◌, ◌∙◌, length, map, ap, arith}
use Rattle.std.proofs.lemmas.Slice.Zip.{AllZip-map}
use Rattle.rayon.specs.Numbers.{nat_range}
use Rattle.rayon.proofs.ListFacts.{IfOk-then}
use Rattle.rayon.proofs.ToStd.{nat_range-All}
use Rattle.label.specs.Labels.{labels}
use Rattle.resolve.specs.Upward.{upward}
use Rattle.resolve.proofs.level.level_at_once.Goals as goal

pub collect-requires-clause-ready : goal.collect-requires-clause-ready
collect-requires-clause-ready g c κs within =
    let ends = c.into_par_iter.ensures in
    let long = c.level-count.ensures.long in
    let inside = nat_range-All (λ (i : ℕ). i < length (labels c.args.tree.now.generals c.args.tree.now.commander c.args.tree.now.general c.args.size)) 0 (length c.level-count.result.now) (λ i low high. omega arith) in
    rw (c.map.ensures.base, c.map.ensures.f, ends.0, ends.1) (λ k d lt. ((c.requires.some, c.requires.short, c.requires.long, inside k d lt), λ y p. tt))

pub returns : goal.returns
returns g c =
    let ends = c.into_par_iter.ensures in
    IfOk-then c.collect.result _ _ c.collect.ensures (λ v h.
    let chain = rw (c.map.ensures.base, c.map.ensures.f) at h.1 in
    let places = chain.1 ∙ ((λ i. nat_range (ends.0 i) (ends.1 i)) ∙ ap (nat_range 0) c.level-count.ensures.long) in
    h.2 ∙ AllZip-map (upward (g.C.Combine.combined c.args.rule.now) c.args.tree.now c.args.below.now c.args.size) chain.0 h.0 chain.2 ∙ ap (map (upward (g.C.Combine.combined c.args.rule.now) c.args.tree.now c.args.below.now c.args.size)) places)
