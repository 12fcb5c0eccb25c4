-- One step of the machine is one step of the run.
use Rattle.std.proofs.Common.{◌≡◌, ◌<◌, ◌≤◌, ◌+◌, ◌∙◌, arith, length, ap}
use Rattle.semantics.specs.Execution.{step}
use Rattle.machine.proofs.AdvanceLemmas.{fewer}
use Rattle.round.specs.Running.{Stopped, IsBack}
use Rattle.semantics.proofs.StepLaws.{step_counts}
use Rattle.round.proofs.Turning.{stopped_with, stopped_counts}
use Rattle.round.proofs.turns.one.Goals as goal

pub overflow_add-limit : goal.overflow_add-limit
overflow_add-limit c =
    let less : c.args.activation.now.state.steps < length c.args.verified.now = fewer c.args.verified.now c.args.bytes.now c.args.activation.now c.program.ensures.sound c.requires.of_run in
    let most : c.len-most.result ≡ length c.args.verified.now = c.len-most.ensures.len ∙ ap length c.program.ensures.same in
    let bound : c.len-most.result ≤ 4096 = c.len-most.ensures.bound in
    let same : c.steps-limit.result ≡ c.args.activation.now.state.steps = c.steps-limit.ensures in
    omega (arith, less, most, bound, same)

both : (c : goal.After-run) → Stopped (step c.args.verified.now c.args.bytes.now c.args.activation.now.relay c.args.activation.now.state) c.run.result c.run.new.self.state
    × IsBack c.run.result c.args.activation.now.state c.run.new.self.state
both c = stopped_with c.args.verified.now c.args.bytes.now c.new-context.result c.args.activation.now c.run.new.self (c.steps-limit.result + 1) c.run.result c.new-context.ensures.same
    (ap (λ n. n + 1) c.steps-limit.ensures) c.requires.of_run c.run.ensures.advances

pub returns-clause-stops : goal.returns-clause-stops
returns-clause-stops c = let h = both c in h.0

pub returns-clause-back : goal.returns-clause-back
returns-clause-back c = let h = both c in h.1

pub returns-clause-one : goal.returns-clause-one
returns-clause-one c =
    let h = both c in
    stopped_counts (step c.args.verified.now c.args.bytes.now c.args.activation.now.relay c.args.activation.now.state) c.run.result c.args.activation.now.state c.run.new.self.state
    (step_counts c.args.verified.now c.args.bytes.now c.args.activation.now.relay c.args.activation.now.state) h.0

pub returns-clause-few : goal.returns-clause-few
returns-clause-few c =
    let less : c.args.activation.now.state.steps < length c.args.verified.now = fewer c.args.verified.now c.args.bytes.now c.args.activation.now c.program.ensures.sound c.requires.of_run in
    let most : c.len-most.result ≡ length c.args.verified.now = c.len-most.ensures.len ∙ ap length c.program.ensures.same in
    let bound : c.len-most.result ≤ 4096 = c.len-most.ensures.bound in
    let h = both c in
    let one : c.run.new.self.state.steps ≡ c.args.activation.now.state.steps + 1 =
    stopped_counts (step c.args.verified.now c.args.bytes.now c.args.activation.now.relay c.args.activation.now.state) c.run.result c.args.activation.now.state c.run.new.self.state
    (step_counts c.args.verified.now c.args.bytes.now c.args.activation.now.relay c.args.activation.now.state) h.0 in
    omega arith
