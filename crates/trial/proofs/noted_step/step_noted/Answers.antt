use Rattle.std.proofs.Common.{◌≡◌, ◌∙◌, ℕ, ◌<◌, ◌+◌, List, ◌++◌, length, ap, refl, sym, arith}
use Rattle.std.specs.Prelude.{Option, Some, None}
use Rattle.insn.specs.Program.{instruction_at}
use Rattle.machine.proofs.AdvanceLemmas.{fewer}
use Rattle.trial.specs.Noted.{call_said}
use Rattle.trial.specs.Slips.{number_at}
use Rattle.trial.specs.declared.helper_call.HelperCall.{HelperCall}
use Rattle.trial.proofs.StepLemmas.{ask_of, exit_of, found_here, next_of}
use Rattle.trial.proofs.SlipLemmas.{ended_by_exit, ended_nowhere, no_slip, none_here, slip_said}
use Rattle.trial.proofs.noted_step.step_noted.Goals as goal

pub prove-unreachable-requires : goal.prove-unreachable-requires
prove-unreachable-requires c =
    let less : c.args.activation.now.state.steps < length c.args.verified.now = fewer c.args.verified.now c.args.context.now c.args.activation.now c.program-program.ensures.sound c.requires in
    let at : c.steps.result ≡ c.args.activation.now.state.steps = c.steps.ensures in
    let all : c.len.result ≡ length c.args.verified.now = c.len.ensures.len ∙ ap length c.program-program.ensures.same in
    omega arith

pub returns-in_default-clause-noted : goal.returns-in_default-clause-noted
returns-in_default-clause-noted c =
    let program = c.args.verified.now in
    let a = c.args.activation.now in
    ended_nowhere program c.args.context.now a c.args.calls.now.items
    (none_here program c.program-program.result.now a.state.unit c.unit.result c.in_default.ensures.found c.program-program.ensures.same c.unit.ensures)

pub returns-in_ok-put_slip-in-Limit-clause-noted : goal.returns-in_ok-put_slip-in-Limit-clause-noted
returns-in_ok-put_slip-in-Limit-clause-noted c =
    let program = c.args.verified.now in
    let a = c.args.activation.now in
    let here : instruction_at program a.state.unit ≡ Some c.in-Some.insn = found_here program c.program-program.result.now a.state.unit c.unit.result c.in-Some.insn c.in-Some.ensures.found c.program-program.ensures.same c.unit.ensures in
    let next = next_of program c.args.context.now a.relay c.requires.answers (c.steps-limit.result + 1) a.state c.run.new.self (ap (λ n. n + 1) c.steps-limit.ensures)
    (c.in-Limit.ensures.advances c.requires.answers c.requires.reached) in
    record {
      outcome = next.0;
      noted = c.in_ok-put_slip-in-Limit.ensures
          ∙ (ap (λ (r0 : ℕ). c.args.calls.now.items ++ call_said r0 c.call_at-call.result) c.number_at.ensures
          ∙ (ap (λ (call : Option HelperCall). c.args.calls.now.items ++ call_said (number_at c.run.new.self.state 0) call) c.call_at-call.ensures
          ∙ ap (λ (l : List HelperCall). c.args.calls.now.items ++ l) (sym (slip_said program c.args.context.now a c.in-Some.insn c.run.new.self.state here next.0))));
      counted = next.1;
      of_run = c.in-Limit.ensures.of_run;
    }

pub returns-in-Asked-clause-noted : goal.returns-in-Asked-clause-noted
returns-in-Asked-clause-noted c =
    let program = c.args.verified.now in
    let a = c.args.activation.now in
    let here : instruction_at program a.state.unit ≡ Some c.in-Some.insn = found_here program c.program-program.result.now a.state.unit c.unit.result c.in-Some.insn c.in-Some.ensures.found c.program-program.ensures.same c.unit.ensures in
    let asks = ask_of program c.args.context.now a.relay c.requires.answers (c.steps-limit.result + 1) a.state c.in-Asked.request c.run.new.self (ap (λ n. n + 1) c.steps-limit.ensures)
    (c.in-Asked.ensures.advances c.requires.answers c.requires.reached) in
    record {
      outcome = asks.0;
      noted = refl;
      none = no_slip program c.args.context.now a c.in-Some.insn c.in-Asked.request c.run.new.self.state here asks.0;
      counted = asks.1;
      of_run = c.in-Asked.ensures.of_run;
    }

pub returns-in-Exited-clause-noted : goal.returns-in-Exited-clause-noted
returns-in-Exited-clause-noted c =
    let program = c.args.verified.now in
    let a = c.args.activation.now in
    let here : instruction_at program a.state.unit ≡ Some c.in-Some.insn = found_here program c.program-program.result.now a.state.unit c.unit.result c.in-Some.insn c.in-Some.ensures.found c.program-program.ensures.same c.unit.ensures in
    let exit = exit_of program c.args.context.now a.relay c.requires.answers (c.steps-limit.result + 1) a.state c.in-Exited.field-0 c.run.new.self (ap (λ n. n + 1) c.steps-limit.ensures)
    (c.in-Exited.ensures.advances c.requires.answers c.requires.reached) in
    ended_by_exit program c.args.context.now a c.in-Some.insn c.in-Exited.field-0 c.run.new.self.state c.args.calls.now.items here exit
