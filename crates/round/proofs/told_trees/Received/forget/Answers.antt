-- One more tree is cleared.
use Rattle.std.proofs.Common.{◌≡◌, ◌-◌, ◌++◌, ◌∷◌, [], ℕ, suc, length, arith, sym, subst}
use Rattle.label.specs.Oral.{Messages}
use Rattle.tree.specs.LieutenantTree.{IsFilled, blank}
use Rattle.round.specs.Told.{ToldSeen, WasTold}
use Rattle.round.proofs.EachTree.{changed_next}
use Rattle.round.proofs.Forgetting.{some_told, told_less}
use Rattle.round.proofs.told_trees.Received.forget.Goals as goal

pub loop-index-preserved : goal.loop-index-preserved
loop-index-preserved c = record {
  rounds = c.loop-index.invariant.rounds;
  trees = changed_next _ (λ M. blank M c.self.inside.rounds) c.loop-index.index c.loop-index.self-inside.trees.items c.index_mut.result.now c.clear.new.self c.loop-index.invariant.trees
      (let o = c.self.inside.trees.ok in let f = c.loop-index.invariant.trees.count in let e = c.len-index-end.ensures in let l = c.loop-index-test.true in omega arith)
      c.index_mut.ensures.value c.clear.ensures.same
      (subst (λ (k : ℕ). (M : Messages) → IsFilled c.index_mut.result.now M → IsFilled c.clear.new.self (blank M k)) c.loop-index.invariant.rounds c.clear.ensures.filled);
}

pub overflow_sub-self : goal.overflow_sub-self
overflow_sub-self c =
    let s = c.args.scenario.now in
    let told = subst (λ (h : ToldSeen). WasTold s (c.requires.told.0 ++ c.requires.told.1 ∷ []) h) (sym c.self.view_is) c.requires.told.2 in
    let some : c.self.inside.rounds ≡ suc (length c.requires.told.0) = some_told s c.requires.told.0 c.requires.told.1 _ told in
    let same = c.loop-index.invariant.rounds in
    omega arith

pub returns : goal.returns
returns c before row told =
    let s = c.args.scenario.now in
    let told' = subst (λ (h : ToldSeen). WasTold s (before ++ row ∷ []) h) (sym c.self.view_is) told in
    subst (λ (k : ℕ). WasTold s before (record { rounds = k - 1; trees = c.loop-index.self-inside.trees.items })) (sym c.loop-index.invariant.rounds)
    (told_less s before row _ c.loop-index.self-inside.trees.items c.loop-index.index c.recall.ensures told' c.loop-index.invariant.trees (let o = c.self.inside.trees.ok in let f = c.loop-index.invariant.trees.count in let e = c.len-index-end.ensures in let l = c.loop-index-test.false in omega arith))
