use Rattle.std.proofs.Common.{ℕ, List, ◌≡◌, ◌∙◌, ap, subst, sym}
use Rattle.std.proofs.lemmas.Result.{IfOk-weaker}
use Rattle.surveys.specs.Covering.{AreApart, AreDoubles, repeated, seeds_in, stretches}
use Rattle.surveys.proofs.Apart.{all_apart}
use Rattle.surveys.proofs.Exactness.{doubles_exact}
use Rattle.surveys.proofs.coverage.doubles.Goals as goal

pub returns-clause-doubles : goal.returns-clause-doubles
returns-clause-doubles c =
    let told = seeds_in c.args.findings.now in
    let exact = doubles_exact told c.in_ok-seeds.seeds.items c.in_ok-seeds.ensures in
    let seeds = ap repeated c.as_slice.ensures.value in
    let twice = ap stretches (c.as_slice-2.ensures.value ∙ (c.in_ok-twice.ensures ∙ seeds)) in
    IfOk-weaker c.stretches.result (λ v. v.items ≡ stretches c.as_slice-2.result.now) (λ v. AreDoubles told v.items)
    (λ v e. subst (AreDoubles told) (sym (e ∙ twice)) exact) c.stretches.ensures

pub returns-clause-apart : goal.returns-clause-apart
returns-clause-apart c =
    let seeds = c.as_slice-2.result.now in
    IfOk-weaker c.stretches.result (λ v. v.items ≡ stretches seeds) (λ v. AreApart v.items)
    (λ v e. subst AreApart (sym e) (all_apart seeds)) c.stretches.ensures
