use Rattle.std.proofs.Common.{◌≡◌, ℕ, ◌<◌, false}
use Rattle.rule_program.specs.Calls.{is_call_at}
use Rattle.rule_program.proofs.program_calls.first_call.Given as goal

abbrev pub invariant-loop-unit : goal.invariant-loop-unit
invariant-loop-unit l = (unit : ℕ) → unit < l.unit → is_call_at l.program unit ≡ false
