-- The tree of one more general off the label is filled.
use Rattle.std.proofs.Common.{◌≡◌, ℕ, refl, subst, take, arith}
use Rattle.std.specs.Prelude.{slice_index, slice_index_or}
use Rattle.round.proofs.Together.{stays_read}
use Rattle.round.proofs.TreeTables.{AreNamedTold, is_next, name_within, named_all, named_next, named_none, named_skip}
use Rattle.round.proofs.delivery.fill_all_children.Goals as goal
use Rattle.round.proofs.delivery.fill_all_children.Goals.{then-index-trees, else-index-trees}

pub loop-number-init : goal.loop-number-init
loop-number-init c = named_none c.args.letters.now c.args.size c.args.front.now c.args.trees.now

pub bounds-tree_indices-from : goal.bounds-tree_indices-from
bounds-tree_indices-from c =
    let route = c.requires.route in
    let l = name_within c.args.generals c.args.letters.now c.args.indices.now c.args.size c.args.front.now c.args.trees.now route c.args.tree_indices.now c.requires.table
    (record { count = c.list_tellers-count.result; generals = c.list_tellers-count.new.names; rows = c.list_tellers-count.new.rows }) (c.list_tellers-count.ensures.tellers route.indexed) c.loop-number.number c.from.result (slice_index c.args.tree_indices.now c.from.result) c.loop-number-test.true c.from.ensures refl in
    let few = route.few in
    omega arith

pub fill_children-requires-clause-told : goal.fill_children-requires-clause-told
fill_children-requires-clause-told c =
    let route = c.requires.route in
    let next = is_next c.args.generals c.args.letters.now c.args.indices.now c.args.size c.args.front.now c.args.trees.now route c.args.tree_indices.now c.requires.table
    (record { count = c.list_tellers-count.result; generals = c.list_tellers-count.new.names; rows = c.list_tellers-count.new.rows }) (c.list_tellers-count.ensures.tellers route.indexed) c.loop-number.number c.from.result (slice_index c.args.tree_indices.now c.from.result) c.loop-number-test.true c.from.ensures refl
    c.loop-number.trees (slice_index_or c.loop-number.trees (slice_index c.args.tree_indices.now c.from.result) c.index-trees-index.result) c.loop-number.invariant c.if-index-trees.true
    (stays_read c.loop-number.trees (slice_index c.args.tree_indices.now c.from.result) c.index-trees-index.result c.if-index-trees.true) in
    (c.args.letters.now, c.args.indices.now, next.walk, next.tellers_of)

pub loop-number-preserved : goal.loop-number-preserved
loop-number-preserved c =
    let route = c.requires.route in let place = slice_index c.args.tree_indices.now c.from.result in
    elim c.if-index-trees.branch [
      | then-index-trees w ↦
          rw w.trees-is (named_next c.args.generals c.args.letters.now c.args.indices.now c.args.size c.args.front.now c.args.trees.now route c.args.tree_indices.now c.requires.table
          (record { count = c.list_tellers-count.result; generals = c.list_tellers-count.new.names; rows = c.list_tellers-count.new.rows }) (c.list_tellers-count.ensures.tellers route.indexed) c.loop-number.number c.from.result place c.loop-number-test.true c.from.ensures refl
          c.loop-number.trees (slice_index_or c.loop-number.trees place w.index-trees-index.result) w.fill_children.new.tree c.loop-number.invariant w.if-index-trees.true
          (stays_read c.loop-number.trees place w.index-trees-index.result w.if-index-trees.true) w.fill_children.ensures)
      | else-index-trees w ↦
          rw w.trees-is (named_skip c.args.generals c.args.letters.now c.args.indices.now c.args.size c.args.front.now c.args.trees.now route c.args.tree_indices.now c.requires.table
          (record { count = c.list_tellers-count.result; generals = c.list_tellers-count.new.names; rows = c.list_tellers-count.new.rows }) (c.list_tellers-count.ensures.tellers route.indexed) c.loop-number.number c.from.result place c.loop-number-test.true c.from.ensures refl
          c.loop-number.trees c.loop-number.invariant (let past = w.if-index-trees.false in omega arith))
    ]

pub returns : goal.returns
returns c =
    let route = c.requires.route in
    let end : c.loop-number.number ≡ c.list_tellers-count.result = let l = c.loop-number-test.false in let g = c.loop-number.auto.number-end in omega arith in
    named_all c.args.generals c.args.letters.now c.args.indices.now c.args.size c.args.front.now c.args.trees.now c.loop-number.trees route
    (record { count = c.list_tellers-count.result; generals = c.list_tellers-count.new.names; rows = c.list_tellers-count.new.rows }) (c.list_tellers-count.ensures.tellers route.indexed)
    (subst (λ (k : ℕ). AreNamedTold c.args.letters.now c.args.size c.args.front.now (take k c.list_tellers-count.new.names) c.args.trees.now c.loop-number.trees) end c.loop-number.invariant)
