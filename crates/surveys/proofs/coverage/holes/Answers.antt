use Rattle.std.proofs.Common.{ℕ, List, ◌≡◌, ◌∙◌, ap, subst, sym}
use Rattle.std.proofs.lemmas.Result.{IfOk-weaker}
use Rattle.surveys.specs.Covering.{AreApart, AreHoles, gaps, seeds_in}
use Rattle.surveys.proofs.Apart.{all_gaps_apart}
use Rattle.surveys.proofs.Exactness.{holes_exact}
use Rattle.surveys.proofs.coverage.holes.Goals as goal

pub returns-clause-holes : goal.returns-clause-holes
returns-clause-holes c =
    let first = c.args.first in
    let last = c.args.last in
    let told = seeds_in c.args.findings.now in
    let exact = holes_exact first last told c.in_ok-seeds.seeds.items c.in_ok-seeds.ensures in
    let slice = ap (λ (s : List ℕ). gaps first s last) c.as_slice.ensures.value in
    IfOk-weaker c.gaps.result (λ v. v.items ≡ gaps first c.as_slice.result.now last) (λ v. AreHoles first last told v.items)
    (λ v e. subst (AreHoles first last told) (sym (e ∙ slice)) exact) c.gaps.ensures

pub returns-clause-apart : goal.returns-clause-apart
returns-clause-apart c =
    let first = c.args.first in
    let last = c.args.last in
    let seeds = c.as_slice.result.now in
    IfOk-weaker c.gaps.result (λ v. v.items ≡ gaps first seeds last) (λ v. AreApart v.items)
    (λ v e. subst AreApart (sym e) (all_gaps_apart first seeds last)) c.gaps.ensures
