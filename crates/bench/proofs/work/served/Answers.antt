-- The run continues after each answer.
use Rattle.bench.proofs.work.served.Goals as goal

pub loop-init : goal.loop-init
loop-init c = c.requires

pub run-requires : goal.run-requires
run-requires c = c.loop.invariant

pub loop-preserved : goal.loop-preserved
loop-preserved c = c.in_ok-answer-in-Asked.ensures.of_run c.args.verified.now c.args.context.now c.in-Asked.ensures.of_run
