use Rattle.std.proofs.Common.{◌-◌}
use Rattle.std.specs.Arc.{arc_value}
use Rattle.round.specs.Activation.{started}
use Rattle.round.specs.Running.{IsWayServed}
use Rattle.round.proofs.life.live_in.Given as goal

abbrev pub invariant-loop-running : goal.invariant-loop-running
invariant-loop-running g l =
    IsWayServed l.general l.round (started l.fn.patience (arc_value l.fn.program) l.fn.context.items l.fn.outbox.relay) l.running (g.S.Server.served l.fn.server) l.transcript.items
    (g.S.Server.served l.server)

abbrev pub decreases-loop-running : goal.decreases-loop-running
decreases-loop-running g l = 4096 - l.running.state.steps
