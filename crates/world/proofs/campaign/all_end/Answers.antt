-- One more general is considered.
use Rattle.std.proofs.Common.{◌∙◌, ap}
use Rattle.round.specs.Scenario.{Scenario, program_of}
use Rattle.world.specs.Kind.{each}
use Rattle.world.specs.KindLists.{ticks_of}
use Rattle.world.proofs.Listed.{each_more, each_inside}
use Rattle.world.proofs.campaign.all_end.Goals as goal

pub tick_to_end-requires : goal.tick_to_end-requires
tick_to_end-requires g c =
    let w = g.W.PlayableWorld.seen c.args.world.now in
    each_inside g.W.PlayableWorld.kind (each c.loop-general.general (λ i. ticks_of i (program_of w.scenario i))) c.loop-general.general c.generals-general-end.result w (g.W.PlayableWorld.seen c.loop-general.world) c.loop-general.invariant c.loop-general-test.true
    (c.generals-general-end.ensures.same ∙ ap (λ (s : Scenario). s.generals) c.campaign.ensures.value)

pub loop-general-preserved : goal.loop-general-preserved
loop-general-preserved g c =
    each_more g.W.PlayableWorld.kind (λ s i. ticks_of i (program_of s i)) c.loop-general.general (g.W.PlayableWorld.seen c.args.world.now) (g.W.PlayableWorld.seen c.loop-general.world) (g.W.PlayableWorld.seen c.tick_to_end.new.world) c.loop-general.invariant c.in_ok-tick_to_end.ensures
