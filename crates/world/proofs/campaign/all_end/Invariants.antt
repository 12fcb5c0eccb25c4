use Rattle.std.proofs.Common.{◌≡◌}
use Rattle.round.specs.Scenario.{program_of}
use Rattle.world.specs.Kind.{each, run}
use Rattle.world.specs.KindLists.{ticks_of}
use Rattle.world.proofs.campaign.all_end.Given as goal

abbrev pub invariant-loop-general : goal.invariant-loop-general
invariant-loop-general g l = g.W.PlayableWorld.seen l.world ≡ run g.W.PlayableWorld.kind (g.W.PlayableWorld.seen l.initial.world) (each l.general (λ i. ticks_of i (program_of (g.W.PlayableWorld.seen l.initial.world).scenario i)))
