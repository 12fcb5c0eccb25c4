use Rattle.std.proofs.Common.{◌<◌, arith}
use Rattle.std.proofs.lemmas.Nat.{one_shl}
use Rattle.rule_program.specs.Evaluation.{evaluated}
use Rattle.rule_program.proofs.MajorityLemmas.{none_below, one_below, all_below, first_of_length}
use Rattle.rule_program.proofs.certificate.first_lost_of_length.Goals as goal

pub loop-number-init : goal.loop-number-init
loop-number-init c = none_below c.args.size (evaluated c.args.rule.now)

pub loop-number-preserved : goal.loop-number-preserved
loop-number-preserved c =
    let e = c.orders_of.ensures in
    one_below c.args.size c.loop-number.number (evaluated c.args.rule.now) c.orders_of.result.items c.loop-number.invariant e.long e.two e.number (rw c.in_default.is at c.in_ok-lost.ensures.kept)

pub returns-in-Some-clause-first : goal.returns-in-Some-clause-first
returns-in-Some-clause-first c =
    let e = c.orders_of.ensures in
    first_of_length c.args.size c.loop-number.number (evaluated c.args.rule.now) c.orders_of.result.items c.in-Some.lost.orders.items c.in-Some.lost.majority c.in-Some.lost.returned
    c.loop-number.invariant e.long e.number (rw c.in-Some.is at c.in_ok-lost.ensures.same) (rw c.in-Some.is at c.in_ok-lost.ensures.lost)

pub returns-clause-kept : goal.returns-clause-kept
returns-clause-kept c =
    let few : c.args.size < 32 = omega arith in
    all_below c.args.size _ c.loop-number.number (evaluated c.args.rule.now) (one_shl c.args.size 32 few) (omega arith) c.loop-number.invariant
