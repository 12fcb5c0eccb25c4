use Rattle.std.proofs.Common.{◌∙◌, List, ◌∷◌, length, ap, subst}
use Rattle.insn.specs.declared.insn.Insn.{Insn}
use Rattle.mem.proofs.Bytes.{bytes_context}
use Rattle.rule_program.specs.Evaluation.{ExitsWith}
use Rattle.rule_program.proofs.RunLemmas.{evaluated_by}
use Rattle.rule_program.proofs.rule_program.RuleProgram.evaluate.Goals as goal

pub new-context-requires : goal.new-context-requires
new-context-requires c =
    ap length (c.as_slice.ensures.value ∙ c.in_ok-bytes.ensures) ∙ (bytes_context (0 ∷ 0 ∷ 0 ∷ 0 ∷ 0 ∷ length c.args.orders.now ∷ 0 ∷ 0 ∷ c.args.orders.now)).long

pub exit_value-requires : goal.exit_value-requires
exit_value-requires c = c.self.invariant

pub returns-clause-value : goal.returns-clause-value
returns-clause-value c =
    evaluated_by c.args.self.now c.args.orders.now c.new-context.result c.in_ok-r0.r0 c.from.result
    (c.new-context.ensures.same ∙ (c.as_slice.ensures.value ∙ c.in_ok-bytes.ensures))
    (subst (λ (p : List Insn). ExitsWith p c.new-context.result c.in_ok-r0.r0) c.self.view_is c.in_ok-r0.ensures) c.from.ensures
