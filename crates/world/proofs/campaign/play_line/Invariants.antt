use Rattle.std.proofs.Common.{◌≡◌, drop}
use Rattle.world.specs.Kind.{run}
use Rattle.world.specs.Schedules.{entries_of}
use Rattle.world.specs.Playing.{line_events}
use Rattle.world.proofs.campaign.play_line.Given as goal

abbrev pub invariant-loop-repeat : goal.invariant-loop-repeat
invariant-loop-repeat g l = record {
  scenario : (g.W.PlayableWorld.seen l.world).scenario ≡ (g.W.PlayableWorld.seen l.initial.world).scenario;
  left : run g.W.PlayableWorld.kind (g.W.PlayableWorld.seen l.world) (line_events (g.W.PlayableWorld.seen l.initial.world).scenario (entries_of (drop l.repeat-index l.repeats)))
      ≡ run g.W.PlayableWorld.kind (g.W.PlayableWorld.seen l.initial.world) (line_events (g.W.PlayableWorld.seen l.initial.world).scenario (entries_of l.repeats));
}
