use Rattle.std.proofs.Common.{◌≡◌, ◌-◌, suc, drop}
use Rattle.world.specs.Kind.{run}
use Rattle.world.specs.KindLists.{replayed_rounds}
use Rattle.world.specs.Playing.{lists_in}
use Rattle.world.proofs.campaign.play_named.Given as goal

abbrev pub invariant-loop-round : goal.invariant-loop-round
invariant-loop-round g l = run g.W.PlayableWorld.kind (g.W.PlayableWorld.seen l.world) (replayed_rounds g.W.PlayableWorld.kind (g.W.PlayableWorld.seen l.world) (l.rounds - l.round) (drop l.round (lists_in l.names)))
    ≡ run g.W.PlayableWorld.kind (g.W.PlayableWorld.seen l.initial.world) (replayed_rounds g.W.PlayableWorld.kind (g.W.PlayableWorld.seen l.initial.world) (suc (g.W.PlayableWorld.seen l.initial.world).scenario.bound) (lists_in l.names))
