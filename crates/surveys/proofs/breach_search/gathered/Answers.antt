use Rattle.std.proofs.Common.{ℕ, List, ◌∙◌, subst}
use Rattle.std.specs.List.{AllZip}
use Rattle.rayon.specs.Numbers.{nat_range}
use Rattle.rayon.proofs.ListFacts.{IfOk-then}
use Rattle.surveys.specs.Plotting.{plot_of}
use Rattle.surveys.specs.Breaches.{IsAnswerTo}
use Rattle.surveys.proofs.breach_search.gathered.Goals as goal

pub returns : goal.returns
returns g c =
    let ends = c.into_par_iter.ensures in
    IfOk-then c.collect.result _ _ c.collect.ensures (λ v h.
    let chain = rw (c.with_min_len.ensures.base, c.map.ensures.base, c.map.ensures.f) at h.1 in
    let places = chain.1 ∙ (λ i. nat_range (ends.0 i) (ends.1 i)) in
    rw h.2 (subst (λ (seeds : List ℕ). AllZip (IsAnswerTo (plot_of c.args.family.now)) seeds h.0) places chain.2))
