-- One more lieutenant gets a tree.
use Rattle.std.proofs.Common.{◌≡◌, ◌<◌, ◌+◌, ◌∙◌, ℕ, List, arith, sym, ap, subst, refl}
use Rattle.tree.specs.LieutenantTree.{LieutenantTree}
use Rattle.round.specs.Told.{lieutenant_at}
use Rattle.round.proofs.Filling.{AreSilent, silent_none, silent_more, told_none, tree_new, lieutenant_other, lieutenant_within}
use Rattle.round.proofs.told_trees.Received.new.Goals as goal

pub loop-index-init : goal.loop-index-init
loop-index-init c = subst (λ (l : List LieutenantTree). AreSilent c.args.scenario.now 0 l) (sym c.in_ok-trees.ensures.items) (silent_none c.args.scenario.now)

pub loop-index-preserved : goal.loop-index-preserved
loop-index-preserved c =
    let s = c.args.scenario.now in let i = c.loop-index.index in let t = c.in_ok-new.field-0 in let n = c.in_ok-new.ensures.numbers in
    let g : c.lieutenant_at-general.result ≡ lieutenant_at s.commander i = c.lieutenant_at-general.ensures ∙ ap (λ (k : ℕ). lieutenant_at k i) c.commander-commander.ensures.same in
    let less : i + 1 < s.generals = let e = c.generals-generals.ensures.same in let l = c.loop-index-test.true in omega arith in
    subst (λ (l : List LieutenantTree). AreSilent s (i + 1) l) (sym c.in_ok-push.ensures.items)
    (silent_more s i (lieutenant_at s.commander i) c.loop-index.trees.items t c.loop-index.invariant refl
    (tree_new s (lieutenant_at s.commander i) t (n.0 ∙ c.generals-generals.ensures.same) (n.1 ∙ c.bound-bound.ensures.same) (n.2 ∙ c.commander-commander.ensures.same) (n.3 ∙ g)
    (lieutenant_within s.commander i s.generals less) (lieutenant_other s.commander i) c.in_ok-new.ensures.silent))

pub returns : goal.returns
returns c =
    let all : c.loop-index.index + 1 ≡ c.args.scenario.now.generals = let e = c.generals-generals.ensures.same in let w = c.generals-generals.ensures.whole.enough in let p = c.loop-index.auto.index-end in let f = c.loop-index-test.false in omega arith in
    told_none c.args.scenario.now c.loop-index.index c.loop-index.trees.items c.loop-index.invariant all
