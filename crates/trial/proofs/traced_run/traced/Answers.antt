use Rattle.std.proofs.Common.{string_bytes}
use Rattle.semantics.specs.Relay.{oral}
use Rattle.trial.proofs.StepLemmas.{steps_left, told_end, told_on}
use Rattle.trial.proofs.traced_run.traced.Goals as goal

pub returns-then-branch : goal.returns-then-branch
returns-then-branch c =
    told_end c.args.words c.args.verified.now c.args.context.now (oral c.args.shape) c.loop-activation.activation c.loop-activation.board (string_bytes c.loop-activation.text) (string_bytes c.turn.new.out)
    c.program.ensures.sound c.loop-activation.invariant (c.in_ok-turn.ensures.ended c.if-branch.true)

pub loop-activation-smaller : goal.loop-activation-smaller
loop-activation-smaller c =
    steps_left c.args.verified.now c.args.context.now c.loop-activation.activation c.turn.new.activation c.program.ensures.sound c.loop-activation.invariant.of_run
    (c.in_ok-turn.ensures.counted c.if-branch.false)

pub loop-activation-preserved : goal.loop-activation-preserved
loop-activation-preserved c =
    told_on c.args.words c.args.verified.now c.args.context.now (oral c.args.shape) c.loop-activation.activation c.turn.new.activation c.loop-activation.board c.turn.new.board
    (string_bytes c.loop-activation.text) (string_bytes c.turn.new.out) c.program.ensures.sound c.loop-activation.invariant (c.in_ok-turn.ensures.on c.if-branch.false)
    c.in_ok-turn.ensures.relay (c.in_ok-turn.ensures.counted c.if-branch.false) (c.in_ok-turn.ensures.told c.if-branch.false)
