use Rattle.rule_program.specs.Evaluation.{evaluated}
use Rattle.rule_program.proofs.MajorityLemmas.{KeepsBelow}
use Rattle.rule_program.proofs.certificate.first_lost_of_length.Given as goal

abbrev pub invariant-loop-number : goal.invariant-loop-number
invariant-loop-number l = KeepsBelow l.size l.number (evaluated l.rule)
