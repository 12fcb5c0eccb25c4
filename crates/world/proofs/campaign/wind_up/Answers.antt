-- Posts, ends and the close come one after another.
use Rattle.world.proofs.Listed.{wound_ok}
use Rattle.world.proofs.campaign.wind_up.Goals as goal

pub returns : goal.returns
returns g c =
    wound_ok g.W.PlayableWorld.kind c.end_round.result (g.W.PlayableWorld.seen c.args.world.now) (g.W.PlayableWorld.seen c.all_post.new.world) (g.W.PlayableWorld.seen c.all_end.new.world) (g.W.PlayableWorld.seen c.end_round.new.world)
    c.all_post.ensures c.in_ok-all_end.ensures c.end_round.ensures
