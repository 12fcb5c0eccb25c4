use Rattle.std.proofs.Common.{◌≡◌, ◌<◌, ◌≤◌, ◌+◌, ◌-◌, ◌*◌, length, ap, ◌∙◌, arith, lit<, get_or}
use Rattle.std.specs.Prelude.{insert}
use Rattle.std.proofs.lemmas.List.{take_all}
use Rattle.label.specs.Labels.{labels}
use Rattle.resolve.specs.Upward.{lower_off_at}
use Rattle.label.proofs.Parts.{part-within, part-long}
use Rattle.resolve.proofs.Steps.{order-read}
use Rattle.resolve.proofs.Places.{place-few}
use Rattle.resolve.proofs.Rising.{upward-is, ap-short}
use Rattle.resolve.proofs.level.upward.Goals as goal

pub children-children-requires : goal.children-children-requires
children-children-requires g c =
    let gen = c.space.ensures.generals in
    let s = c.saturating_sub.ensures in
    let e = c.from-width.ensures in
    let within : c.args.rank * c.from-width.result + c.from-width.result ≤ length (labels c.args.tree.now.generals c.args.tree.now.commander c.args.tree.now.general (c.args.size + 1)) = part-within c.args.tree.now.generals c.args.tree.now.commander c.args.tree.now.general c.args.size c.args.rank c.from-width.result c.space.ensures.kind.commander c.space.ensures.kind.general c.space.ensures.kind.lieutenant c.requires.some (omega arith) c.requires.within in
    let long = c.requires.long in
    omega arith

pub push-requires : goal.push-requires
push-requires g c =
    let few = c.space.ensures.kind.few in
    let some = c.requires.some in
    let gen = c.space.ensures.generals in
    let s = c.saturating_sub.ensures in
    let e = c.from-width.ensures in
    let long : length c.children-children.result.now ≡ c.from-width.result = part-long c.args.below.now c.children-children.result.now (c.args.rank * c.from-width.result) c.from-width.result (let w : c.args.rank * c.from-width.result + c.from-width.result ≤ length (labels c.args.tree.now.generals c.args.tree.now.commander c.args.tree.now.general (c.args.size + 1)) = part-within c.args.tree.now.generals c.args.tree.now.commander c.args.tree.now.general c.args.size c.args.rank c.from-width.result c.space.ensures.kind.commander c.space.ensures.kind.general c.space.ensures.kind.lieutenant c.requires.some (omega arith) c.requires.within in let b = c.requires.long in omega arith) c.children-children.ensures in
    let at : length c.loop-x.orders.items ≤ c.loop-x.x-index = ap-short c.loop-x.x-index c.loop-x.orders.items c.children-children.result.now c.loop-x.invariant in
    let within : c.loop-x.x-index < length c.children-children.result.now = c.loop-x-test.true in
    let room : length c.loop-x.orders.items < 13 = omega arith in
    (lit< tt, room)

pub insert-requires : goal.insert-requires
insert-requires g c =
    let few = c.space.ensures.kind.few in
    let some = c.requires.some in
    let gen = c.space.ensures.generals in
    let s = c.saturating_sub.ensures in
    let e = c.from-width.ensures in
    let long : length c.children-children.result.now ≡ c.from-width.result = part-long c.args.below.now c.children-children.result.now (c.args.rank * c.from-width.result) c.from-width.result (let w : c.args.rank * c.from-width.result + c.from-width.result ≤ length (labels c.args.tree.now.generals c.args.tree.now.commander c.args.tree.now.general (c.args.size + 1)) = part-within c.args.tree.now.generals c.args.tree.now.commander c.args.tree.now.general c.args.size c.args.rank c.from-width.result c.space.ensures.kind.commander c.space.ensures.kind.general c.space.ensures.kind.lieutenant c.requires.some (omega arith) c.requires.within in let b = c.requires.long in omega arith) c.children-children.ensures in
    let whole : c.loop-x.orders.items ≡ c.children-children.result.now = c.loop-x.invariant ∙ take_all c.loop-x.x-index c.children-children.result.now (let h = c.loop-x-test.false in omega arith) in
    let size : length c.loop-x.orders.items ≡ length c.children-children.result.now = ap length whole in
    let lower_off : lower_off_at c.args.tree.now c.args.size c.args.rank ≤ c.args.tree.now.generals - 1 - c.args.size = place-few c.args.tree.now c.args.size c.args.rank c.space.ensures.kind c.requires.some c.requires.within in
    let p = c.from-lower_off.ensures in
    let q = c.lower_off.ensures in
    let low : c.from-lower_off.result ≤ length c.loop-x.orders.items = omega arith in
    let room : length c.loop-x.orders.items < 13 = omega arith in
    (lit< tt, (low, room))

pub returns : goal.returns
returns g c =
    let gen = c.space.ensures.generals in
    let s = c.saturating_sub.ensures in
    let e = c.from-width.ensures in
    let whole : c.loop-x.orders.items ≡ c.children-children.result.now = c.loop-x.invariant ∙ take_all c.loop-x.x-index c.children-children.result.now (let h = c.loop-x-test.false in omega arith) in
    c.combine.ensures ∙ upward-is (g.C.Combine.combined c.args.rule.now) c.args.tree.now c.args.below.now c.args.size c.args.rank c.from-width.result c.from-lower_off.result (get_or c.level.result.now c.args.rank 0) c.children-children.result.now c.as_slice.result.now (omega arith) c.children-children.ensures (c.from-lower_off.ensures ∙ c.lower_off.ensures)
    (order-read c.args.tree.now c.args.size c.args.rank c.level.result.now c.level.ensures.value)
    (c.as_slice.ensures.value ∙ (c.insert.ensures.items ∙ ap (λ xs. insert xs c.from-lower_off.result (get_or c.level.result.now c.args.rank 0)) whole))
