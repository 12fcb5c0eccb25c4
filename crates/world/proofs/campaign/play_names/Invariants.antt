use Rattle.std.proofs.Common.{◌≡◌, drop}
use Rattle.world.specs.Kind.{run}
use Rattle.world.specs.KindLists.{names_events}
use Rattle.world.proofs.campaign.play_names.Given as goal

abbrev pub invariant-loop-general : goal.invariant-loop-general
invariant-loop-general g l = run g.W.PlayableWorld.kind (g.W.PlayableWorld.seen l.world) (names_events g.W.PlayableWorld.kind (g.W.PlayableWorld.seen l.world) (drop l.general-index l.names))
    ≡ run g.W.PlayableWorld.kind (g.W.PlayableWorld.seen l.initial.world) (names_events g.W.PlayableWorld.kind (g.W.PlayableWorld.seen l.initial.world) l.names)
