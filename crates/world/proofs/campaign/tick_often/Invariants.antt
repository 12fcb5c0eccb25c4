use Rattle.std.proofs.Common.{◌≡◌}
use Rattle.std.specs.Prelude.{replicate}
use Rattle.world.specs.declared.event.Event.TheVariants.{Tick}
use Rattle.world.specs.Kind.{run}
use Rattle.world.proofs.campaign.tick_often.Given as goal

abbrev pub invariant-loop-left : goal.invariant-loop-left
invariant-loop-left g l = run g.W.PlayableWorld.kind (g.W.PlayableWorld.seen l.world) (replicate l.left (Tick l.general)) ≡ run g.W.PlayableWorld.kind (g.W.PlayableWorld.seen l.initial.world) (replicate l.fn.times (Tick l.general))

abbrev pub decreases-loop-left : goal.decreases-loop-left
decreases-loop-left g l = l.left
