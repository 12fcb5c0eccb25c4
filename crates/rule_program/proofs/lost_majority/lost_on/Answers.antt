use Rattle.std.proofs.Common.{◌∙◌, ℕ, List, ap, subst, sym}
use Rattle.rule_program.specs.Evaluation.{evaluated}
use Rattle.rule_program.specs.Majorities.{IsMajorityOf}
use Rattle.rule_program.proofs.MajorityLemmas.{kept_by}
use Rattle.rule_program.proofs.lost_majority.lost_on.Goals as goal

pub returns-in_default-clause-kept : goal.returns-in_default-clause-kept
returns-in_default-clause-kept c =
    λ v most. absurd (c.in_default.ensures.none v (subst (λ (xs : List ℕ). IsMajorityOf xs v) (sym c.as_slice-list.ensures.value) most))

pub returns-then-returned-majority-clause-kept : goal.returns-then-returned-majority-clause-kept
returns-then-returned-majority-clause-kept c =
    let list = c.as_slice-list.ensures.value in
    kept_by (evaluated c.args.rule.now) c.args.orders.items c.in-Some.majority
    (subst (λ (xs : List ℕ). IsMajorityOf xs c.in-Some.majority) list c.in-Some.ensures.some)
    (sym (c.in_ok-returned.ensures.value ∙ ap (evaluated c.args.rule.now) list) ∙ c.if-returned-majority.true)

pub returns-clause-lost : goal.returns-clause-lost
returns-clause-lost c =
    let list = c.as_slice-list.ensures.value in
    record {
      two = c.requires;
      most = subst (λ (xs : List ℕ). IsMajorityOf xs c.in-Some.majority) list c.in-Some.ensures.some;
      returns = sym (c.in_ok-returned.ensures.value ∙ ap (evaluated c.args.rule.now) list);
      lost = c.if-returned-majority.false;
    }
