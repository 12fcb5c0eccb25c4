use Rattle.std.proofs.Common.{◌<◌, ◌≤◌, ◌-◌, ◌%◌, sym, ◌∙◌, arith}
use Rattle.std.proofs.lemmas.Bool.{cond-true, cond-false, lt-ltb, le-ltb}
use Rattle.std.specs.Prelude.{nat_lt}
use Rattle.resolve.proofs.Decisions.{first-place}
use Rattle.resolve.proofs.Places.{place-one, grown, Grown}
use Rattle.resolve.proofs.level.+lower_off.Goals as goal

pub returns-then-space : goal.returns-then-space
returns-then-space t c =
    let commander = c.space-space.ensures.commander in
    let general = c.space-space.ensures.general in
    place-one c.args.tree.now c.args.size c.args.rank (c.space-space.result.general - 1) c.space-space.ensures.kind c.if-size-eq1.true c.requires.within
    (first-place c.args.tree.now.commander c.args.tree.now.general (c.space-space.result.general - 1) (λ l. omega arith) (λ l. absurd (let h = c.if-space.true in omega arith)))

pub returns-else-space : goal.returns-else-space
returns-else-space t c =
    let commander = c.space-space.ensures.commander in
    let general = c.space-space.ensures.general in
    place-one c.args.tree.now c.args.size c.args.rank c.space-space.result.general c.space-space.ensures.kind c.if-size-eq1.true c.requires.within
    (first-place c.args.tree.now.commander c.args.tree.now.general c.space-space.result.general (λ l. absurd (let h = c.if-space.false in omega arith)) (λ l. omega arith))

pub nonzero_div-rank : goal.nonzero_div-rank
nonzero_div-rank t c =
    let some = c.requires.some in
    let more = c.if-size-eq1.false in
    let g = c.space-space.ensures.generals in
    let e = c.from-width.ensures in
    let s = c.saturating_sub.ensures in
    let up : Grown c.args.tree.now c.args.size c.args.rank c.from-width.result = grown c.args.tree.now c.args.size c.args.rank c.from-width.result c.space-space.ensures.kind (omega arith) (omega arith) c.requires.within in
    up.some

pub nonzero_rem-rank : goal.nonzero_rem-rank
nonzero_rem-rank t c =
    let some = c.requires.some in
    let more = c.if-size-eq1.false in
    let g = c.space-space.ensures.generals in
    let e = c.from-width.ensures in
    let s = c.saturating_sub.ensures in
    let up : Grown c.args.tree.now c.args.size c.args.rank c.from-width.result = grown c.args.tree.now c.args.size c.args.rank c.from-width.result c.space-space.ensures.kind (omega arith) (omega arith) c.requires.within in
    up.some

pub lower_off-parent-requires : goal.lower_off-parent-requires
lower_off-parent-requires t c =
    let some = c.requires.some in
    let short = c.requires.short in
    let more = c.if-size-eq1.false in
    let g = c.space-space.ensures.generals in
    let e = c.from-width.ensures in
    let s = c.saturating_sub.ensures in
    let up : Grown c.args.tree.now c.args.size c.args.rank c.from-width.result = grown c.args.tree.now c.args.size c.args.rank c.from-width.result c.space-space.ensures.kind (omega arith) (omega arith) c.requires.within in
    (let h = c.decreases in omega arith, (omega arith, (omega arith, up.parent)))

pub returns-then-rank-width : goal.returns-then-rank-width
returns-then-rank-width t c =
    let some = c.requires.some in
    let more = c.if-size-eq1.false in
    let g = c.space-space.ensures.generals in
    let e = c.from-width.ensures in
    let s = c.saturating_sub.ensures in
    let up : Grown c.args.tree.now c.args.size c.args.rank c.from-width.result = grown c.args.tree.now c.args.size c.args.rank c.from-width.result c.space-space.ensures.kind (omega arith) (omega arith) c.requires.within in
    let low : c.args.rank % c.from-width.result < c.lower_off-parent.result = let h = c.if-rank-width.true in let p = c.from.ensures in omega arith in
    sym (cond-true (nat_lt (c.args.rank % c.from-width.result) c.lower_off-parent.result) (c.lower_off-parent.result - 1) c.lower_off-parent.result (lt-ltb (c.args.rank % c.from-width.result) c.lower_off-parent.result low)) ∙ up.lower_off c.lower_off-parent.result c.lower_off-parent.ensures

pub returns-else-rank-width : goal.returns-else-rank-width
returns-else-rank-width t c =
    let some = c.requires.some in
    let more = c.if-size-eq1.false in
    let g = c.space-space.ensures.generals in
    let e = c.from-width.ensures in
    let s = c.saturating_sub.ensures in
    let up : Grown c.args.tree.now c.args.size c.args.rank c.from-width.result = grown c.args.tree.now c.args.size c.args.rank c.from-width.result c.space-space.ensures.kind (omega arith) (omega arith) c.requires.within in
    let high : c.lower_off-parent.result ≤ c.args.rank % c.from-width.result = let h = c.if-rank-width.false in let p = c.from.ensures in omega arith in
    sym (cond-false (nat_lt (c.args.rank % c.from-width.result) c.lower_off-parent.result) (c.lower_off-parent.result - 1) c.lower_off-parent.result (le-ltb (c.args.rank % c.from-width.result) c.lower_off-parent.result high)) ∙ up.lower_off c.lower_off-parent.result c.lower_off-parent.ensures
