-- One more named general makes his access.
use Rattle.std.proofs.Common.{get_or}
use Rattle.world.proofs.Listed.{names_more}
use Rattle.world.proofs.campaign.play_names.Goals as goal
use Rattle.std.proofs.lemmas.Option.{slice_get-get_or}

pub loop-general-preserved : goal.loop-general-preserved
loop-general-preserved g c =
    names_more g.W.PlayableWorld.kind (g.W.PlayableWorld.seen c.loop-general.world) (g.W.PlayableWorld.seen c.tick_to_access.new.world) _ c.args.names.now c.loop-general.general-index (get_or c.args.names.now c.loop-general.general-index 0) c.from.result
    (slice_get-get_or c.args.names.now c.loop-general.general-index 0 c.loop-general-test.true) c.from.ensures c.in_ok-tick_to_access.ensures c.loop-general.invariant
