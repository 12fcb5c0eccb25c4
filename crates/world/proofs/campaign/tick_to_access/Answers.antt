-- Turns up to the next request or the end are taken, and then one more tick.
use Rattle.std.proofs.Common.{◌∙◌, sym}
use Rattle.world.proofs.Ticking.{named_turn}
use Rattle.world.proofs.campaign.tick_to_access.Goals as goal

pub returns-in-Some : goal.returns-in-Some
returns-in-Some g c =
    named_turn g.W.PlayableWorld.kind c.campaign.ensures.campaigns c.tick.result (g.W.PlayableWorld.seen c.args.world.now) (g.W.PlayableWorld.seen c.run_on.new.self) (g.W.PlayableWorld.seen c.tick.new.self) c.campaign.result.now c.open_parts.result.now c.args.general c.in-Some.most c.run_on.result
    c.campaign.ensures.value c.recall.ensures c.campaign.ensures.reached c.open_parts.ensures (sym c.in-Some.is ∙ c.instructions.ensures) c.run_on.ensures.far c.run_on.ensures.same c.tick.ensures.done
