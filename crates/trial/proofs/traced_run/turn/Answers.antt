use Rattle.std.proofs.Common.{◌≡◌, ◌∙◌, ◌<◌, ◌≤◌, ◌+◌, length, ap, arith, string_bytes}
use Rattle.std.specs.Prelude.{Some, codes}
use Rattle.insn.specs.Program.{instruction_at}
use Rattle.semantics.specs.State.{State}
use Rattle.semantics.proofs.StepLaws.{resumed_counts}
use Rattle.machine.proofs.AdvanceLemmas.{fewer}
use Rattle.trial.specs.StepLines.{after_told, before_told}
use Rattle.trial.proofs.StepLemmas.{ask_of, exit_of, found_here, grew_thrice, grew_twice, next_of, told_asks, told_exit, told_next}
use Rattle.trial.proofs.traced_run.turn.Goals as goal

pub overflow_add-limit : goal.overflow_add-limit
overflow_add-limit c =
    let less : c.args.activation.now.state.steps < length c.args.verified.now = fewer c.args.verified.now c.args.context.now c.args.activation.now c.program.ensures.sound c.requires.of_run in
    let few : length c.args.verified.now ≤ 4096 = c.requires.few in
    let same : c.steps-limit.result ≡ c.args.activation.now.state.steps = c.steps-limit.ensures in
    omega arith

pub returns-in_ok-push_str-in-Limit-clause-told : goal.returns-in_ok-push_str-in-Limit-clause-told
returns-in_ok-push_str-in-Limit-clause-told c same rest =
    let program = c.args.verified.now in
    let a = c.args.activation.now in
    let here : instruction_at program a.state.unit ≡ Some c.in-Some.insn = found_here program c.program.result.now a.state.unit c.unit.result c.in-Some.insn c.in-Some.ensures.found c.program.ensures.same c.unit.ensures in
    let next = next_of program c.args.context.now a.relay c.requires.of_run.answers (c.steps-limit.result + 1) a.state c.run.new.self (ap (λ n. n + 1) c.steps-limit.ensures)
    (c.in-Limit.ensures.advances c.requires.of_run.answers c.requires.of_run.reached) in
    told_next program c.args.context.now a.relay rest c.args.board.now.words a.state c.run.new.self.state c.in-Some.insn (string_bytes c.args.out.now) (string_bytes c.push_str.new.self) here next.0
    (grew_thrice (string_bytes c.push_str.new.self) (string_bytes c.put_after.new.out) (string_bytes c.put_before.new.out) (string_bytes c.args.out.now)
    (before_told a.state.unit a.state.registers c.in-Some.insn) (after_told c.run.new.self.state.unit c.run.new.self.state.registers c.in-Some.insn) (codes "\n") c.in_ok-push_str-in-Limit.ensures.bytes c.in_ok-put_after-in-Limit.ensures c.in_ok-put_before.ensures)

pub returns-in_ok-serve-in-Asked-clause-counted : goal.returns-in_ok-serve-in-Asked-clause-counted
returns-in_ok-serve-in-Asked-clause-counted c same =
    let a = c.args.activation.now in
    let asks = ask_of c.args.verified.now c.args.context.now a.relay c.requires.of_run.answers (c.steps-limit.result + 1) a.state c.in-Asked.request c.run.new.self (ap (λ n. n + 1) c.steps-limit.ensures)
    (c.in-Asked.ensures.advances c.requires.of_run.answers c.requires.of_run.reached) in
    ap (λ (s : State). s.steps) c.in_ok-serve-in-Asked.ensures.state ∙ (resumed_counts c.in-Asked.request _ c.run.new.self.state ∙ asks.1)

pub returns-in_ok-serve-in-Asked-clause-told : goal.returns-in_ok-serve-in-Asked-clause-told
returns-in_ok-serve-in-Asked-clause-told c same rest =
    let program = c.args.verified.now in
    let a = c.args.activation.now in
    let here : instruction_at program a.state.unit ≡ Some c.in-Some.insn = found_here program c.program.result.now a.state.unit c.unit.result c.in-Some.insn c.in-Some.ensures.found c.program.ensures.same c.unit.ensures in
    let asks = ask_of program c.args.context.now a.relay c.requires.of_run.answers (c.steps-limit.result + 1) a.state c.in-Asked.request c.run.new.self (ap (λ n. n + 1) c.steps-limit.ensures)
    (c.in-Asked.ensures.advances c.requires.of_run.answers c.requires.of_run.reached) in
    told_asks program c.args.context.now a.relay rest c.args.board.now.words c.serve.new.board.words a.state c.run.new.self.state c.serve.new.activation.state c.in-Some.insn c.in-Asked.request
    (string_bytes c.args.out.now) (string_bytes c.put_before.new.out) (string_bytes c.serve.new.out) here asks.0
    c.in_ok-serve-in-Asked.ensures.state c.in_ok-serve-in-Asked.ensures.words c.in_ok-put_before.ensures c.in_ok-serve-in-Asked.ensures.told

pub returns-in_ok-push_str-in-Exited-clause-ended : goal.returns-in_ok-push_str-in-Exited-clause-ended
returns-in_ok-push_str-in-Exited-clause-ended c same rest =
    let program = c.args.verified.now in
    let a = c.args.activation.now in
    let here : instruction_at program a.state.unit ≡ Some c.in-Some.insn = found_here program c.program.result.now a.state.unit c.unit.result c.in-Some.insn c.in-Some.ensures.found c.program.ensures.same c.unit.ensures in
    let exit = exit_of program c.args.context.now a.relay c.requires.of_run.answers (c.steps-limit.result + 1) a.state c.in-Exited.field-0 c.run.new.self (ap (λ n. n + 1) c.steps-limit.ensures)
    (c.in-Exited.ensures.advances c.requires.of_run.answers c.requires.of_run.reached) in
    told_exit program c.args.context.now a.relay rest c.args.board.now.words a.state c.run.new.self.state c.in-Some.insn c.in-Exited.field-0 (string_bytes c.args.out.now) (string_bytes c.push_str-in-Exited.new.self) here exit
    (grew_twice (string_bytes c.push_str-in-Exited.new.self) (string_bytes c.put_before.new.out) (string_bytes c.args.out.now)
    (before_told a.state.unit a.state.registers c.in-Some.insn) (codes "\n") c.in_ok-push_str-in-Exited.ensures.bytes c.in_ok-put_before.ensures)
