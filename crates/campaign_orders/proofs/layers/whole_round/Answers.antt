-- One more access is made.
use Rattle.std.proofs.Common.{List, arith, subst, sym}
use Rattle.campaign_orders.specs.Layers.{State, IsRoundOn}
use Rattle.campaign_orders.proofs.Spreading.{way_begins, way_goes_on, way_ends}
use Rattle.campaign_orders.proofs.layers.whole_round.Goals as goal

pub step-requires : goal.step-requires
step-requires c = (c.requires.0, c.loop-made.invariant.states c.requires.0 c.requires.1)

pub step-requires-2 : goal.step-requires-2
step-requires-2 c = (c.requires.0, c.loop-made.invariant.states c.requires.0 c.requires.1)

pub loop-made-init : goal.loop-made-init
loop-made-init c = way_begins c.args.scenario.now c.args.most c.args.first.items c.new-done.result c.new-done.ensures

pub loop-made-preserved : goal.loop-made-preserved
loop-made-preserved c =
    way_goes_on c.args.scenario.now c.args.most c.loop-made.made c.args.first.items c.loop-made.layer.items c.loop-made.done c.in_ok-next.next.items c.step.new.done c.recall.ensures c.loop-made-test.true c.loop-made.invariant
    c.in_ok-next.ensures

pub returns : goal.returns
returns c =
    subst (λ (l : List State). IsRoundOn c.args.scenario.now c.args.most c.args.first.items l) (sym c.into_states.ensures)
    (way_ends c.args.scenario.now c.args.most c.loop-made.made c.args.first.items c.loop-made.layer.items c.loop-made.done c.in_ok-step.field-0.items c.step-2.new.done (omega arith) (omega arith) c.loop-made.invariant
    c.in_ok-step.ensures)
