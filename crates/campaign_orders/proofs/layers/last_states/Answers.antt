-- One more round is closed.
use Rattle.std.proofs.Common.{◌+◌, ◌∙◌, [], ap, arith, subst, sym}
use Rattle.round.specs.Scenario.{Scenario}
use Rattle.world.specs.Kind.{opening}
use Rattle.world.specs.World.{oral_kind}
use Rattle.campaign_orders.specs.Layers.{State, IsRoundOn, AreStatesOf}
use Rattle.campaign_orders.proofs.Spreading.{fresh_states, rounds_begin, rounds_go_on, rounds_end}
use Rattle.campaign_orders.proofs.layers.last_states.Goals as goal

abbrev first_of : Scenario → State
first_of s = record { world = opening oral_kind s; ways = 1; rows = []; names = [] }

pub whole_round-requires : goal.whole_round-requires
whole_round-requires c = (
  c.loop-made.made,
  subst (λ (s : Scenario). AreStatesOf s c.loop-made.made c.loop-made.states.items) (sym c.in_ok-shared.ensures)
      (fresh_states c.args.scenario.now c.loop-made.made c.loop-made.states.items c.loop-made.invariant.fresh),
)

pub loop-made-init : goal.loop-made-init
loop-made-init c =
    let first = c.in_ok-opening.ensures ∙ ap (λ (s : Scenario). first_of s) c.in_ok-shared.ensures in
    rounds_begin c.args.scenario.now (c.args.scenario.now.bound + 1) c.in_ok-opening.field-0 c.push.new.self.items c.new-states.result.items first c.new-states.ensures.items c.in_ok-push.ensures.items

pub loop-made-preserved : goal.loop-made-preserved
loop-made-preserved c =
    let on = subst (λ (s : Scenario). IsRoundOn s c.most_in_round-most.result c.loop-made.states.items c.in_ok-next.next.items) c.in_ok-shared.ensures c.in_ok-next.ensures in
    rounds_go_on c.args.scenario.now (c.args.scenario.now.bound + 1) c.loop-made.made c.most_in_round-most.result c.loop-made.states.items c.in_ok-next.next.items c.recall.ensures c.most_in_round-most.ensures (omega arith) c.loop-made.invariant on

pub returns : goal.returns
returns c = rounds_end c.args.scenario.now (c.args.scenario.now.bound + 1) c.loop-made.made c.loop-made.states.items (omega arith) (omega arith) (omega arith) c.loop-made.invariant
