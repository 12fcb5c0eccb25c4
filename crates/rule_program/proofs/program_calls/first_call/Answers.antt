use Rattle.std.proofs.Common.{sym, ◌∙◌, below_more, arith}
use Rattle.rule_program.proofs.CallLemmas.{callless_from}
use Rattle.rule_program.proofs.program_calls.first_call.Goals as goal

pub loop-unit-preserved : goal.loop-unit-preserved
loop-unit-preserved c = below_more _ _ c.loop-unit.invariant (sym c.is_call_at.ensures ∙ c.if-is_call_at.false)

pub returns : goal.returns
returns c = record {
  call = tt;
  none = callless_from c.args.program.now c.loop-unit.unit (omega arith) c.loop-unit.invariant;
}
