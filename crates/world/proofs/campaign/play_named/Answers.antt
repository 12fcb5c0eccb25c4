-- One more round is played.
use Rattle.std.proofs.Common.{◌≡◌, ◌+◌, ◌∙◌, suc, ap, arith, drop}
use Rattle.round.specs.Scenario.{Scenario}
use Rattle.world.specs.Kind.{run}
use Rattle.world.specs.KindLists.{replayed_rounds}
use Rattle.world.specs.Playing.{lists_in}
use Rattle.world.proofs.Listed.{replay_first, replay_next, replay_last}
use Rattle.world.proofs.campaign.play_named.Goals as goal

pub loop-round-init : goal.loop-round-init
loop-round-init g c =
    let w = g.W.PlayableWorld.seen c.args.world.now in
    let count : c.from-rounds.result ≡ w.scenario.bound = c.from-rounds.ensures ∙ (c.bound.ensures.same ∙ ap (λ (s : Scenario). s.bound) c.campaign.ensures.value) in
    replay_first g.W.PlayableWorld.kind (lists_in c.args.names.now) w (c.from-rounds.result + 1) w.scenario.bound (omega (arith, count))

pub loop-round-preserved : goal.loop-round-preserved
loop-round-preserved g c =
    let w = g.W.PlayableWorld.seen c.args.world.now in
    replay_next g.W.PlayableWorld.kind (c.from-rounds.result + 1) c.loop-round.round (lists_in c.args.names.now) c.names_at.result.now (g.W.PlayableWorld.seen c.loop-round.world) (g.W.PlayableWorld.seen c.named_round.new.world)
    (run g.W.PlayableWorld.kind w (replayed_rounds g.W.PlayableWorld.kind w (suc w.scenario.bound) (lists_in c.args.names.now))) c.loop-round-test.true c.names_at.ensures c.in_ok-named_round.ensures c.loop-round.invariant

pub returns : goal.returns
returns g c =
    replay_last g.W.PlayableWorld.kind (c.from-rounds.result + 1) c.loop-round.round (drop c.loop-round.round (lists_in c.args.names.now)) (g.W.PlayableWorld.seen c.loop-round.world) _ c.loop-round-test.false c.loop-round.invariant
