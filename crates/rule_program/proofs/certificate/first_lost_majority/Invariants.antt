use Rattle.rule_program.specs.Evaluation.{evaluated}
use Rattle.rule_program.proofs.MajorityLemmas.{KeepsShorter}
use Rattle.rule_program.proofs.certificate.first_lost_majority.Given as goal

abbrev pub invariant-loop-size : goal.invariant-loop-size
invariant-loop-size l = KeepsShorter l.size (evaluated l.rule)
