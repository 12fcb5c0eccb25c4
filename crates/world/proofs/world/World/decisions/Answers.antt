-- One more tree is resolved.
use Rattle.std.proofs.Common.{◌≡◌, ◌∷◌, [], ℕ, ap, lit<}
use Rattle.round.specs.Letters.{messages}
use Rattle.round.specs.Told.{lieutenant_at}
use Rattle.world.specs.Chronicle.{decision}
use Rattle.world.proofs.Holding.{more_each}
use Rattle.world.proofs.Deciders.{few_decided, tree_decides, all_decided}
use Rattle.world.proofs.Outcomes.{decided_agree}
use Rattle.world.proofs.world.World.decisions.Goals as goal

pub push-requires : goal.push-requires
push-requires c =
    let s = c.self.inside in
    let w = c.args.self.now in (
      lit< tt,
      few_decided s.scenario s.closed.items s.told c.trees-tree-items.result.now (λ i. decision w.scenario (messages w.closed) (lieutenant_at w.scenario.commander i)) c.loop-tree.tree-index c.loop-tree.decisions.items
          c.recall.ensures c.self.invariant.1 c.trees-tree-items.ensures c.loop-tree-test.true c.loop-tree.invariant,
    )

pub loop-tree-preserved : goal.loop-tree-preserved
loop-tree-preserved c =
    let s = c.self.inside in
    let w = c.args.self.now in
    let order : c.resolve.result ≡ decision w.scenario (messages w.closed) (lieutenant_at w.scenario.commander c.loop-tree.tree-index) =
    tree_decides s.scenario s.closed.items s.board s.opened s.parts.items s.full w s.told c.trees-tree-items.result.now c.self.view_is c.self.invariant.1 c.trees-tree-items.ensures c.rule-rule.result c.loop-tree.tree-index c.resolve.result c.tree-item.result
    c.rule-rule.ensures c.loop-tree-test.true c.tree-item.is c.resolve.ensures in
    more_each c.loop-tree.tree-index (λ i. decision w.scenario (messages w.closed) (lieutenant_at w.scenario.commander i) ∷ []) c.loop-tree.decisions.items (c.resolve.result ∷ []) c.push.new.self.items c.push.ensures.items c.loop-tree.invariant
    (ap (λ (d : ℕ). d ∷ []) order)

pub returns-clause-values : goal.returns-clause-values
returns-clause-values c =
    let s = c.self.inside in
    all_decided s.scenario s.closed.items s.board s.opened s.parts.items s.full c.args.self.now s.told c.trees-tree-items.result.now c.self.view_is c.self.invariant.1 c.trees-tree-items.ensures c.loop-tree.tree-index c.loop-tree.decisions.items
    c.recall.ensures c.loop-tree-test.false c.loop-tree.auto.tree-index-end c.loop-tree.invariant

pub returns-clause-agree : goal.returns-clause-agree
returns-clause-agree c =
    let s = c.self.inside in
    decided_agree s.scenario s.closed.items s.board s.opened s.parts.items s.full c.args.self.now c.loop-tree.decisions.items c.recall.ensures c.self.invariant.0 c.self.view_is (returns-clause-values c)
