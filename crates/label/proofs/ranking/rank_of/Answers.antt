use Rattle.std.proofs.Common.{◌≡◌, ◌<◌, ◌-◌, ◌*◌, ◌+◌, ◌^◌, take, get_or, ◌∷◌, [], Some, arith, ◌∙◌, refl}
use Rattle.std.specs.Prelude.{slice_get}
use Rattle.label.specs.Space.{labels_of}
use Rattle.label.proofs.Counts.{rank-fits, first-stands, whole-stands, row-fits, begun}
use Rattle.label.proofs.Bounds.{below-at}
use Rattle.label.proofs.Prefix.{first-free, more-free, more}
use Rattle.label.proofs.ranking.rank_of.Goals as goal

pub loop-i-init : goal.loop-i-init
loop-i-init c = record {
  stands = first-stands c.args.space c.requires.space c.args.generals.now c.requires.label.first;
  free = first-free c.without-free.result c.args.space.general c.args.space.commander c.args.generals.now c.requires.label.first (c.without-free.ensures (c.args.space.general ∷ []) (c.without.ensures [] c.all_free.ensures));
}

pub free_below-requires : goal.free_below-requires
free_below-requires c = let few = c.requires.space.generals in let h : get_or c.args.generals.now c.loop-i.i 0 < c.args.space.generals = below-at c.args.space.generals c.args.generals.now c.loop-i.i c.requires.label.below c.loop-i-test.true in omega arith

pub without-free-requires-in-loop-i : goal.without-free-requires-in-loop-i
without-free-requires-in-loop-i c = let few = c.requires.space.generals in let h : get_or c.args.generals.now c.loop-i.i 0 < c.args.space.generals = below-at c.args.space.generals c.args.generals.now c.loop-i.i c.requires.label.below c.loop-i-test.true in omega arith

pub loop-i-preserved : goal.loop-i-preserved
loop-i-preserved c = record {
  stands = more c.args.space c.requires.space c.args.generals.now c.requires.label c.requires.without c.loop-i.i c.loop-i.rank c.from-width.result c.free_below.result (c.loop-i.rank * c.from-width.result + c.free_below.result) c.loop-i.auto.i c.loop-i-test.true (c.from-width.ensures ∙ c.saturating_sub.ensures) (c.free_below.ensures (c.args.space.general ∷ take c.loop-i.i c.args.generals.now) c.loop-i.invariant.free) refl c.loop-i.invariant.stands;
  free = more-free c.without-free-in-loop-i.result c.args.space.general c.args.generals.now c.loop-i.i c.loop-i-test.true (c.without-free-in-loop-i.ensures (c.args.space.general ∷ take c.loop-i.i c.args.generals.now) c.loop-i.invariant.free);
}

pub overflow_add-rank : goal.overflow_add-rank
overflow_add-rank c =
    let stands : slice_get (labels_of c.args.space (c.loop-i.i + 1)) (c.loop-i.rank * c.from-width.result + c.free_below.result) ≡ Some (take (c.loop-i.i + 1) c.args.generals.now) = more c.args.space c.requires.space c.args.generals.now c.requires.label c.requires.without c.loop-i.i c.loop-i.rank c.from-width.result c.free_below.result (c.loop-i.rank * c.from-width.result + c.free_below.result) c.loop-i.auto.i c.loop-i-test.true (c.from-width.ensures ∙ c.saturating_sub.ensures) (c.free_below.ensures (c.args.space.general ∷ take c.loop-i.i c.args.generals.now) c.loop-i.invariant.free) refl c.loop-i.invariant.stands in
    let h : c.loop-i.rank * c.from-width.result + c.free_below.result < 2 ^ 32 = rank-fits c.args.space c.requires.space c.loop-i.i (c.loop-i.rank * c.from-width.result + c.free_below.result) (take (c.loop-i.i + 1) c.args.generals.now) (omega arith) stands in
    omega arith

pub overflow_mul-rank : goal.overflow_mul-rank
overflow_mul-rank c =
    let h : c.loop-i.rank * (c.args.space.generals - 1 - c.loop-i.i) < 2 ^ 32 = row-fits c.args.space c.requires.space c.loop-i.i c.loop-i.rank (take c.loop-i.i c.args.generals.now) c.loop-i.auto.i (omega arith) c.loop-i.invariant.stands in
    let e : c.from-width.result ≡ c.args.space.generals - 1 - c.loop-i.i = c.from-width.ensures ∙ c.saturating_sub.ensures in
    rw e (omega arith)

pub returns : goal.returns
returns c = whole-stands c.args.space c.args.generals.now c.loop-i.i c.loop-i.rank c.loop-i-test.false (c.loop-i.auto.i-end (begun c.args.space.commander c.args.generals.now c.requires.label.first)) c.loop-i.invariant.stands
