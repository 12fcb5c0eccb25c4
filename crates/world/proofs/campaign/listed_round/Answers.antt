-- The line is played, and then the round is finished.
use Rattle.world.specs.Schedules.{entries_of}
use Rattle.world.specs.Playing.{line_events}
use Rattle.world.proofs.Listed.{then_ok}
use Rattle.world.proofs.campaign.listed_round.Goals as goal

pub returns : goal.returns
returns g c =
    let w = g.W.PlayableWorld.seen c.args.world.now in
    then_ok g.W.PlayableWorld.kind c.wind_up.result (line_events w.scenario (entries_of c.args.line.now)) w (g.W.PlayableWorld.seen c.play_line.new.world) (g.W.PlayableWorld.seen c.wind_up.new.world) c.in_ok-play_line.ensures c.wind_up.ensures
