-- One more entry is played.
use Rattle.std.proofs.Common.{get_or}
use Rattle.world.proofs.Listed.{line_more}
use Rattle.world.proofs.campaign.play_line.Goals as goal
use Rattle.std.proofs.lemmas.Option.{slice_get-get_or}

pub loop-repeat-preserved : goal.loop-repeat-preserved
loop-repeat-preserved g c =
    let w = g.W.PlayableWorld.seen c.args.world.now in
    let both = line_more g.W.PlayableWorld.kind w.scenario (g.W.PlayableWorld.seen c.loop-repeat.world) (g.W.PlayableWorld.seen c.play_entry.new.world) _ c.args.repeats.now c.loop-repeat.repeat-index (get_or c.args.repeats.now c.loop-repeat.repeat-index (record { general = 0; times = 0 }))
    (slice_get-get_or c.args.repeats.now c.loop-repeat.repeat-index (record { general = 0; times = 0 }) c.loop-repeat-test.true) c.in_ok-play_entry.ensures c.loop-repeat.invariant.scenario c.loop-repeat.invariant.left in
    record { scenario = both.0; left = both.1 }
