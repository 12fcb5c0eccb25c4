use Rattle.bounds.proofs.RefutationLemmas.{few_from, third_breaks}
use Rattle.bounds.proofs.refutation.first_broken.Goals as goal

pub returns-clause-first : goal.returns-clause-first
returns-clause-first c =
    third_breaks c.args.rule c.args.generals c.args.commander c.args.bound (few_from c.args.generals c.args.bound c.args.commander c.in_ok-check_numbers.ensures.given)
    (c.in_ok-is_broken.ensures.kept c.if-branch.false) (c.in_ok-is_broken-2.ensures.kept c.if-branch-2.false)
