use Rattle.std.proofs.Common.{List, subst}
use Rattle.insn.specs.declared.insn.Insn.{Insn}
use Rattle.rule_program.specs.Calls.{IsFirstCall}
use Rattle.rule_program.proofs.CallLemmas.{callless_same}
use Rattle.rule_program.proofs.rule_program.RuleProgram.try_new.Goals as goal

pub returns-in-Some-clause-call : goal.returns-in-Some-clause-call
returns-in-Some-clause-call c = subst (λ (p : List Insn). IsFirstCall p c.in-Some.unit) c.program.ensures.same c.in-Some.ensures.call

pub invariant_of-result : goal.invariant_of-result
invariant_of-result c = record { sound = c.program.ensures.sound; callless = callless_same c.program.result.now c.args.verified c.program.ensures.same c.in-None.ensures.none }

pub returns-in-None-clause-callless : goal.returns-in-None-clause-callless
returns-in-None-clause-callless c = record { sound = c.program.ensures.sound; callless = callless_same c.program.result.now c.args.verified c.program.ensures.same c.in-None.ensures.none }
