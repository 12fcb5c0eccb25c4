use Rattle.std.proofs.Common.{◌∙◌, [], sym, subst}
use Rattle.semantics.specs.Relay.{Relay}
use Rattle.semantics.specs.Reached.{Reached}
use Rattle.rule_program.proofs.program_run.exit_value.Goals as goal

pub run_out-requires-clause-relay : goal.run_out-requires-clause-relay
run_out-requires-clause-relay c = c.start-machine.ensures.relay ∙ c.in_ok-outbox.ensures.relay

pub run_out-requires-clause-reached : goal.run_out-requires-clause-reached
run_out-requires-clause-reached c =
    subst (λ (relay : Relay). Reached c.args.verified.now c.args.context.now relay [] c.start-machine.result.state) (sym c.start-machine.ensures.relay) c.start-machine.ensures.reached
