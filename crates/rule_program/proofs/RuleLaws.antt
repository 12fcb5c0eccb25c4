-- Laws of rule programs.
use Rattle.std.proofs.Common.{ℕ, ◌+◌, ◌-◌, ◌≤◌, List, length, arith}
use Rattle.insn.specs.declared.insn.Insn.{Insn}
use Rattle.bounds.specs.TwoOrders.{IsTwoOrderRule}
use Rattle.bounds.proofs.TwoOrderLaws.{proved_two_order_rules_agree}
use Rattle.rule_program.specs.Evaluation.{evaluated}
use Rattle.rule_program.specs.Laws.{CertifiedRulesAgree, ProgramsReturnTwoOrders}
use Rattle.rule_program.specs.Majorities.{KeepsMajorities}
use Rattle.rule_program.proofs.RunLemmas.{evaluated-below}

-- Proves that a program that keeps majorities is right on lists of two orders.
two_order_rule : (program : List Insn) (most n : ℕ) → KeepsMajorities most (evaluated program) → n ≤ most + 1 → IsTwoOrderRule (n - 1) (evaluated program)
two_order_rule program most n keeps few = record {
  two = λ xs short two. evaluated-below program xs;
  law = λ xs v short two more. keeps xs (let all : length xs ≤ most = omega arith in all) two v more;
}

pub proved_certified_rules_agree : CertifiedRulesAgree
proved_certified_rules_agree program most n m k keeps few tolerable =
    proved_two_order_rules_agree (evaluated program) n m k (two_order_rule program most n keeps few) tolerable

pub proved_programs_return_two_orders : ProgramsReturnTwoOrders
proved_programs_return_two_orders = evaluated-below
