-- One more general is considered.
use Rattle.std.proofs.Common.{◌≡◌, ◌+◌, ◌∙◌, ◌∷◌, ◌++◌, [], ℕ, false, true, sym, ap, refl, arith}
use Rattle.std.specs.Prelude.{slice_index_or}
use Rattle.outbox.proofs.RowLemmas.{others-few}
use Rattle.round.specs.Fronts.{IsFront}
use Rattle.round.proofs.Walking.{child_long}
use Rattle.round.proofs.Together.{up_from, up_on, up_off, up_all, child_route, below_more, below_same, ends_at}
use Rattle.round.proofs.TreeTables.{table_up}
use Rattle.round.proofs.delivery.+descend.Goals as goal
use Rattle.round.proofs.delivery.+descend.Goals.{then-not-front-from, else-not-front-from}

pub loop-general-init : goal.loop-general-init
loop-general-init t c = record {
  told = up_from c.args.generals c.args.letters.now c.args.indices.now c.args.size c.args.front.now c.args.trees.now c.requires.route;
  below = λ d w h. refl;
}

pub descend-requires : goal.descend-requires
descend-requires t c =
    let f = c.args.front.now in let x = c.loop-general.general in
    let mark : slice_index_or f.on x false ≡ false = sym (ap (λ (g : ℕ). slice_index_or f.on g false) c.from.ensures) ∙ c.if-not-front-from.true in
    let within = c.loop-general-test.true in
    let child : IsFront c.args.generals c.requires.route.c (c.requires.route.w ++ x ∷ []) c.with-longer.result =
    c.with-longer.ensures c.requires.route.c c.requires.route.w within c.requires.route.few c.requires.route.inside c.requires.route.front (sym (c.requires.route.front.marks x within) ∙ mark) (c.loop-general.invariant.below c.requires.route.c c.requires.route.w c.requires.route.front) in
    let size : c.with-longer.result.size ≡ f.size + 1 = child.size ∙ child_long c.args.generals c.requires.route.c x c.requires.route.w f c.requires.route.front in (
      let h = c.decreases in let m = c.requires.route.short in let e = c.if-front-size.false in omega arith,
      (
        child_route c.args.generals c.args.letters.now c.args.indices.now c.args.size f c.with-longer.result c.args.trees.now c.loop-general.trees c.requires.route x c.if-front-size.false child c.loop-general.invariant.told,
        table_up c.args.generals c.args.letters.now c.args.indices.now c.args.size f c.args.trees.now c.loop-general.trees c.requires.route x c.loop-general.invariant.told c.args.tree_indices.now c.requires.table,
      ),
    )

pub overflow_add-below : goal.overflow_add-below
overflow_add-below t c =
    let at = c.loop-general.invariant.below c.requires.route.c c.requires.route.w c.requires.route.front in
    let few = others-few c.loop-general.general c.requires.route.w in
    let l = c.loop-general-test.true in let n = c.requires.route.few in
    omega arith

pub loop-general-preserved : goal.loop-general-preserved
loop-general-preserved t c =
    let f = c.args.front.now in let x = c.loop-general.general in let n = c.args.generals in
    let within = c.loop-general-test.true in
    elim c.if-not-front-from.branch [
      | then-not-front-from w ↦
          let mark : slice_index_or f.on x false ≡ false = sym (ap (λ (g : ℕ). slice_index_or f.on g false) c.from.ensures) ∙ w.if-not-front-from.true in
          record {
            told = rw w.trees-is (up_off n c.args.letters.now c.args.indices.now c.args.size f w.with-longer.result c.args.trees.now c.loop-general.trees w.descend.new.trees c.requires.route x within mark
                (λ v h. w.with-longer.ensures c.requires.route.c v within c.requires.route.few c.requires.route.inside h (sym (h.marks x within) ∙ mark) (c.loop-general.invariant.below c.requires.route.c v h))
                c.loop-general.invariant.told w.descend.ensures);
            below = λ d v h. rw w.below-is (below_more x v c.loop-general.below (sym (h.marks x within) ∙ mark) (c.loop-general.invariant.below d v h));
          }
      | else-not-front-from w ↦
          let mark : slice_index_or f.on x false ≡ true = sym (ap (λ (g : ℕ). slice_index_or f.on g false) c.from.ensures) ∙ w.if-not-front-from.false in
          record {
            told = rw w.trees-is (up_on n c.args.letters.now c.args.indices.now c.args.size f c.args.trees.now c.loop-general.trees c.requires.route x within mark c.loop-general.invariant.told);
            below = λ d v h. rw w.below-is (below_same x v c.loop-general.below (sym (h.marks x within) ∙ mark) (c.loop-general.invariant.below d v h));
          }
    ]

pub returns : goal.returns
returns t c =
    let end : c.loop-general.general ≡ c.args.generals = let l = c.loop-general-test.false in let g = c.loop-general.auto.general-end in omega arith in
    up_all c.args.generals c.args.letters.now c.args.indices.now c.args.size c.args.front.now c.args.trees.now c.loop-general.trees c.requires.route
    (ends_at c.args.letters.now c.args.size c.args.front.now c.loop-general.general c.args.generals c.args.trees.now c.loop-general.trees end c.loop-general.invariant.told)
