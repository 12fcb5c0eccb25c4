use Rattle.std.proofs.Common.{◌≡◌, ◌-◌, suc, drop}
use Rattle.world.specs.Kind.{run}
use Rattle.world.specs.KindLists.{listed_rounds}
use Rattle.world.specs.Schedules.{lines_by}
use Rattle.world.proofs.campaign.play_listed.Given as goal

abbrev pub invariant-loop-round : goal.invariant-loop-round
invariant-loop-round g l =
    let w = g.W.PlayableWorld.seen l.initial.world in
    record {
      scenario : (g.W.PlayableWorld.seen l.world).scenario ≡ w.scenario;
      left : run g.W.PlayableWorld.kind (g.W.PlayableWorld.seen l.world) (listed_rounds w.scenario (l.rounds - l.round) (lines_by (drop l.round l.schedule)))
          ≡ run g.W.PlayableWorld.kind w (listed_rounds w.scenario (suc w.scenario.bound) (lines_by l.schedule));
    }
