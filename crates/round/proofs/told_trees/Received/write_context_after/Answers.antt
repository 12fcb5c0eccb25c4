-- The orders that a lieutenant took are a level of his tree.
use Rattle.std.proofs.Common.{◌≡◌, ◌≤◌, ℕ, List, Ok, length, take, ap, ◌∙◌, arith, sym, subst, inl, inr}
use Rattle.round.specs.Letters.{Letter}
use Rattle.round.specs.Contexts.{context_of, AreWords}
use Rattle.round.specs.Told.{ToldSeen, WasTold}
use Rattle.round.proofs.Filling.{looked_up, looked_tree}
use Rattle.round.proofs.Values.{few_values, first_told, commander_told, later_told, words_told, words_first}
use Rattle.round.proofs.told_trees.Received.write_context_after.Goals as goal

pub level-requires-clause-short : goal.level-requires-clause-short
level-requires-clause-short c =
    let s = c.args.scenario.now in
    let h = looked_tree s c.requires.told.0 _ c.args.self.now c.commander-commander.result c.lieutenant_index.result c.from.result c.args.general c.index-tree.result.now c.bound-bound.ensures.whole c.requires.told.1 c.self.view_is c.commander-commander.ensures.same c.lieutenant_index.ensures.there c.requires.general c.from.ensures c.index-tree.ensures in
    let left = c.requires.left in
    let b = h.bound in
    omega arith

pub write_context-requires-2-clause-few : goal.write_context-requires-2-clause-few
write_context-requires-2-clause-few c =
    let s = c.args.scenario.now in
    let h = looked_tree s c.requires.told.0 _ c.args.self.now c.commander-commander.result c.lieutenant_index.result c.from.result c.args.general c.index-tree.result.now c.bound-bound.ensures.whole c.requires.told.1 c.self.view_is c.commander-commander.ensures.same c.lieutenant_index.ensures.there c.requires.general c.from.ensures c.index-tree.ensures in
    few_values s c.requires.told.0 c.args.general c.args.rounds c.index-tree.result.now c.level.result.now c.bound-bound.ensures.whole h c.requires.left c.level.ensures.long

pub returns-then-rounds-eq0-clause-context : goal.returns-then-rounds-eq0-clause-context
returns-then-rounds-eq0-clause-context c = first_told {E = ℕ} (Ok c.write_first_context.new.bytes) c.args.scenario.now c.args.self.now c.args.general c.args.rounds c.if-rounds-eq0.true c.write_first_context.ensures

pub returns-then-general-commander-clause-context : goal.returns-then-general-commander-clause-context
returns-then-general-commander-clause-context c =
    commander_told {E = ℕ} (Ok c.write_context.new.bytes) c.args.scenario.now c.args.self.now c.args.general c.bound-bound.result c.args.rounds c.shape-shape.result c.requires.passed c.if-rounds-eq0.false (c.if-general-commander.true ∙ c.commander-commander.ensures.same)
    c.shape-shape.ensures.same c.bound-bound.ensures.same c.write_context.ensures.bytes

pub returns-clause-context : goal.returns-clause-context
returns-clause-context c =
    let s = c.args.scenario.now in
    let o = looked_up s c.requires.told.0 _ c.args.self.now c.commander-commander.result c.lieutenant_index.result c.from.result c.args.general c.index-tree.result.now c.bound-bound.ensures.whole c.requires.told.1 c.self.view_is c.commander-commander.ensures.same c.lieutenant_index.ensures.there c.requires.general c.from.ensures c.index-tree.ensures in
    let passed : c.args.rounds ≤ c.self.inside.rounds = subst (λ (h : ToldSeen). c.args.rounds ≤ h.rounds) (sym c.self.view_is) c.requires.passed in
    let P : ToldSeen → Type 0 = λ h. (before : List (List Letter)) → WasTold s before h → c.write_context-2.new.bytes.items ≡ context_of s (take c.args.rounds before) c.args.general in
    subst P c.self.view_is
    (later_told {E = ℕ} (Ok c.write_context-2.new.bytes) s _ c.args.general c.bound-bound.result c.args.rounds c.lieutenant_index.result c.index-tree.result.now c.shape-shape.result c.level.result.now c.bound-bound.ensures.whole passed c.if-rounds-eq0.false
    o.0 o.1 o.2 c.shape-shape.ensures.same c.bound-bound.ensures.same c.level.ensures.told c.write_context-2.ensures.bytes)

pub returns-then-rounds-eq0-clause-words : goal.returns-then-rounds-eq0-clause-words
returns-then-rounds-eq0-clause-words c = λ before told. words_first c.args.scenario.now (take c.args.rounds before) c.args.general c.bound-bound.ensures.whole (inl (ap (λ k. length (take k before)) c.if-rounds-eq0.true))

pub returns-then-general-commander-clause-words : goal.returns-then-general-commander-clause-words
returns-then-general-commander-clause-words c = λ before told. words_first c.args.scenario.now (take c.args.rounds before) c.args.general c.bound-bound.ensures.whole (inr (c.if-general-commander.true ∙ c.commander-commander.ensures.same))

pub returns-clause-words : goal.returns-clause-words
returns-clause-words c =
    let s = c.args.scenario.now in
    let o = looked_up s c.requires.told.0 _ c.args.self.now c.commander-commander.result c.lieutenant_index.result c.from.result c.args.general c.index-tree.result.now c.bound-bound.ensures.whole c.requires.told.1 c.self.view_is c.commander-commander.ensures.same c.lieutenant_index.ensures.there c.requires.general c.from.ensures c.index-tree.ensures in
    let passed : c.args.rounds ≤ c.self.inside.rounds = subst (λ (h : ToldSeen). c.args.rounds ≤ h.rounds) (sym c.self.view_is) c.requires.passed in
    let P : ToldSeen → Type 0 = λ h. (before : List (List Letter)) → WasTold s before h → AreWords s (take c.args.rounds before) c.args.general in
    subst P c.self.view_is (λ before told. words_told s before _ c.args.general c.args.rounds c.lieutenant_index.result c.index-tree.result.now c.level.result.now c.bound-bound.ensures.whole told passed c.if-rounds-eq0.false o.0 o.1 o.2 c.level.ensures.told c.write_context-2.ensures.words)
