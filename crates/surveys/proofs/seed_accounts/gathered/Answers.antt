use Rattle.std.proofs.Common.{ℕ, List, ◌∙◌, subst}
use Rattle.std.specs.List.{AllZip}
use Rattle.rayon.specs.Numbers.{nat_range}
use Rattle.rayon.proofs.ListFacts.{IfOk-then}
use Rattle.surveys.specs.Accounting.{IsAccountOf}
use Rattle.surveys.specs.Judging.{IsRefusedBy}
use Rattle.surveys.proofs.Gathered.{Both, all_found, all_refused, goods}
use Rattle.surveys.proofs.seed_accounts.gathered.Goals as goal

pub returns-clause-accounts : goal.returns-clause-accounts
returns-clause-accounts g c =
    let ends = c.into_par_iter.ensures in
    let R = IsAccountOf c.args.family.now in
    let Q = IsRefusedBy c.args.family.now in
    IfOk-then c.collect.result _ _ c.collect.ensures (λ v h.
    let chain = rw (c.with_min_len.ensures.base, c.map.ensures.base, c.map.ensures.f) at h.1 in
    let places = chain.1 ∙ (λ i. nat_range (ends.0 i) (ends.1 i)) in
    let all = subst (λ (seeds : List ℕ). AllZip (Both R Q) seeds h.0) places chain.2 in
    all_found R (nat_range c.args.first c.args.end) h.0 v (goods R Q (nat_range c.args.first c.args.end) h.0 all) h.2)

pub returns-clause-refused : goal.returns-clause-refused
returns-clause-refused g c =
    let ends = c.into_par_iter.ensures in
    let R = IsAccountOf c.args.family.now in
    let Q = IsRefusedBy c.args.family.now in
    IfOk-then c.collect.result _ _ c.collect.ensures (λ v h.
    let chain = rw (c.with_min_len.ensures.base, c.map.ensures.base, c.map.ensures.f) at h.1 in
    let places = chain.1 ∙ (λ i. nat_range (ends.0 i) (ends.1 i)) in
    all_refused R c.args.family.now c.args.first c.args.end h.0 v (subst (λ (seeds : List ℕ). AllZip (Both R Q) seeds h.0) places chain.2) h.2)
