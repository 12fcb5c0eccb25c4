-- One more general is considered.
use Rattle.std.proofs.Common.{◌∙◌, ap}
use Rattle.round.specs.Scenario.{Scenario, program_of}
use Rattle.world.specs.Kind.{each}
use Rattle.world.specs.KindLists.{post_of}
use Rattle.world.proofs.Listed.{each_more, each_inside}
use Rattle.world.proofs.campaign.all_post.Goals as goal

pub post_if_loyal-requires : goal.post_if_loyal-requires
post_if_loyal-requires g c =
    let w = g.W.PlayableWorld.seen c.args.world.now in
    each_inside g.W.PlayableWorld.kind (each c.loop-general.general (λ i. post_of i (program_of w.scenario i))) c.loop-general.general c.generals-general-end.result w (g.W.PlayableWorld.seen c.loop-general.world) c.loop-general.invariant c.loop-general-test.true
    (c.generals-general-end.ensures.same ∙ ap (λ (s : Scenario). s.generals) c.campaign.ensures.value)

pub loop-general-preserved : goal.loop-general-preserved
loop-general-preserved g c =
    each_more g.W.PlayableWorld.kind (λ s i. post_of i (program_of s i)) c.loop-general.general (g.W.PlayableWorld.seen c.args.world.now) (g.W.PlayableWorld.seen c.loop-general.world) (g.W.PlayableWorld.seen c.post_if_loyal.new.world) c.loop-general.invariant c.post_if_loyal.ensures
