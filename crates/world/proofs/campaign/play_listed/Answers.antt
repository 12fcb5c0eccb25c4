-- One more round is played.
use Rattle.std.proofs.Common.{◌≡◌, ◌+◌, ◌∙◌, suc, refl, ap, arith, drop}
use Rattle.round.specs.Scenario.{Scenario}
use Rattle.world.specs.Kind.{run}
use Rattle.world.specs.KindLists.{listed_rounds}
use Rattle.world.specs.Schedules.{lines_by}
use Rattle.world.proofs.Listed.{play_first, play_next, play_last}
use Rattle.world.proofs.campaign.play_listed.Goals as goal

pub loop-round-init : goal.loop-round-init
loop-round-init g c =
    let w = g.W.PlayableWorld.seen c.args.world.now in
    let count : c.from-rounds.result ≡ w.scenario.bound = c.from-rounds.ensures ∙ (c.bound.ensures.same ∙ ap (λ (s : Scenario). s.bound) c.campaign.ensures.value) in
    record { scenario = refl; left = play_first g.W.PlayableWorld.kind w.scenario c.args.schedule.now w (c.from-rounds.result + 1) (omega (arith, count)) }

pub loop-round-preserved : goal.loop-round-preserved
loop-round-preserved g c =
    let w = g.W.PlayableWorld.seen c.args.world.now in
    let both = play_next g.W.PlayableWorld.kind w.scenario (c.from-rounds.result + 1) c.loop-round.round c.args.schedule.now c.line_at.result.now (g.W.PlayableWorld.seen c.loop-round.world) (g.W.PlayableWorld.seen c.listed_round.new.world)
    (run g.W.PlayableWorld.kind w (listed_rounds w.scenario (suc w.scenario.bound) (lines_by c.args.schedule.now))) c.loop-round-test.true c.loop-round.invariant.scenario c.line_at.ensures c.in_ok-listed_round.ensures c.loop-round.invariant.left in
    record { scenario = both.0; left = both.1 }

pub returns : goal.returns
returns g c =
    let w = g.W.PlayableWorld.seen c.args.world.now in
    play_last g.W.PlayableWorld.kind w.scenario (c.from-rounds.result + 1) c.loop-round.round (lines_by (drop c.loop-round.round c.args.schedule.now)) (g.W.PlayableWorld.seen c.loop-round.world) _ c.loop-round-test.false c.loop-round.invariant.left
