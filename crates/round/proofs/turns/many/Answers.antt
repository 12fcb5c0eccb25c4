-- The machine's steps are turns.
use Rattle.std.proofs.Common.{refl, ◌∙◌}
use Rattle.machine.specs.declared.stop.StopReason.TheVariants.{Asked, Exited, Limit}
use Rattle.round.proofs.Turning.{ahead_with, within_with}
use Rattle.round.proofs.turns.many.Goals as goal

pub returns-in-Exited-clause-went : goal.returns-in-Exited-clause-went
returns-in-Exited-clause-went c =
    let h = ahead_with c.args.verified.now c.args.bytes.now c.new-context.result c.args.activation.now c.run.new.self c.args.limit (Exited c.in-Exited.field-0) c.new-context.ensures.same
    c.requires.of_run c.in-Exited.ensures.advances c.run.new.self c.run.ensures.relay refl in h.0

pub returns-in-Limit-clause-went : goal.returns-in-Limit-clause-went
returns-in-Limit-clause-went c =
    let h = ahead_with c.args.verified.now c.args.bytes.now c.new-context.result c.args.activation.now c.run.new.self c.args.limit Limit c.new-context.ensures.same
    c.requires.of_run c.in-Limit.ensures.advances c.run.new.self c.run.ensures.relay refl in h.0

pub returns-in-Asked-clause-went : goal.returns-in-Asked-clause-went
returns-in-Asked-clause-went c =
    let h = ahead_with c.args.verified.now c.args.bytes.now c.new-context.result c.args.activation.now c.run.new.self c.args.limit (Asked c.in-Asked.field-0) c.new-context.ensures.same
    c.requires.of_run c.in-Asked.ensures.advances c.withdraw.new.self (c.withdraw.ensures.relay ∙ c.run.ensures.relay) c.withdraw.ensures.state in h.0

pub returns-in-Exited-clause-within : goal.returns-in-Exited-clause-within
returns-in-Exited-clause-within c =
    within_with c.args.verified.now c.args.bytes.now c.new-context.result c.args.activation.now c.run.new.self c.args.limit (Exited c.in-Exited.field-0) c.new-context.ensures.same
    c.requires.of_run c.in-Exited.ensures.advances c.run.new.self.state refl

pub returns-in-Limit-clause-within : goal.returns-in-Limit-clause-within
returns-in-Limit-clause-within c =
    within_with c.args.verified.now c.args.bytes.now c.new-context.result c.args.activation.now c.run.new.self c.args.limit Limit c.new-context.ensures.same
    c.requires.of_run c.in-Limit.ensures.advances c.run.new.self.state refl

pub returns-in-Asked-clause-within : goal.returns-in-Asked-clause-within
returns-in-Asked-clause-within c =
    within_with c.args.verified.now c.args.bytes.now c.new-context.result c.args.activation.now c.run.new.self c.args.limit (Asked c.in-Asked.field-0) c.new-context.ensures.same
    c.requires.of_run c.in-Asked.ensures.advances c.withdraw.new.self.state c.withdraw.ensures.state
