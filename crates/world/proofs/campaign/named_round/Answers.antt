-- The names make their accesses, and then the round is finished.
use Rattle.world.specs.KindLists.{names_events}
use Rattle.world.proofs.Listed.{then_ok}
use Rattle.world.proofs.campaign.named_round.Goals as goal

pub returns : goal.returns
returns g c =
    let w = g.W.PlayableWorld.seen c.args.world.now in
    then_ok g.W.PlayableWorld.kind c.wind_up.result (names_events g.W.PlayableWorld.kind w c.args.names.now) w (g.W.PlayableWorld.seen c.play_names.new.world) (g.W.PlayableWorld.seen c.wind_up.new.world) c.in_ok-play_names.ensures c.wind_up.ensures
