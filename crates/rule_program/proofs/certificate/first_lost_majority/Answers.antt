use Rattle.std.proofs.Common.{arith}
use Rattle.rule_program.specs.Evaluation.{evaluated}
use Rattle.rule_program.proofs.MajorityLemmas.{none_shorter, one_longer, all_kept, first_of_all}
use Rattle.rule_program.proofs.certificate.first_lost_majority.Goals as goal

pub loop-size-init : goal.loop-size-init
loop-size-init c = none_shorter (evaluated c.args.rule.now)

pub loop-size-preserved : goal.loop-size-preserved
loop-size-preserved c = one_longer c.loop-size.size (evaluated c.args.rule.now) c.loop-size.invariant (rw c.in_default.is at c.in_ok-lost.ensures.kept)

pub returns-in-Some-clause-refuted : goal.returns-in-Some-clause-refuted
returns-in-Some-clause-refuted c =
    first_of_all c.args.most c.loop-size.size (evaluated c.args.rule.now) c.in-Some.lost.orders.items c.in-Some.lost.majority c.in-Some.lost.returned (omega arith) c.loop-size.invariant (rw c.in-Some.is at c.in_ok-lost.ensures.first)

pub returns-clause-certified : goal.returns-clause-certified
returns-clause-certified c = all_kept c.args.most c.loop-size.size (evaluated c.args.rule.now) (omega arith) c.loop-size.invariant
