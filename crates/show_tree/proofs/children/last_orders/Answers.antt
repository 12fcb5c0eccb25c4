use Rattle.std.proofs.Common.{◌<◌, ◌≡◌, ◌∙◌, ◌∷◌, ◌++◌, [], ap, arith, get_or, length, ℕ, lit<, map, refl, sym}
use Rattle.label.specs.Labels.{others}
use Rattle.label.specs.Oral.{order_of}
use Rattle.book.specs.Explained.{element}
use Rattle.book.specs.Table.{told}
use Rattle.book.proofs.Gathering.{few_others, map_no, off_first, on_behind, on_first}
use Rattle.book.proofs.ListLemmas.{held_last, other_more, own_more, place_off}
use Rattle.show_tree.proofs.ChildLemmas.{child_read, child_within, no_more, one_more, order_is}
use Rattle.show_tree.proofs.children.last_orders.Goals as goal
use Rattle.show_tree.proofs.children.last_orders.Goals.{then-other-general, else-other-general+then-not-has, else-other-general+else-not-has}

pub push-requires : goal.push-requires
push-requires g c =
    let few = few_others (element (g.H.Heard.seen c.args.table.now) 0 c.args.label.now c.args.general) c.args.label.now c.loop-other.other in
    let so : length c.loop-other.orders.items ≡ length (map (element (g.H.Heard.seen c.args.table.now) 0 c.args.label.now c.args.general) (others c.loop-other.other c.args.label.now)) = ap length c.loop-other.invariant.0 in
    let below = c.loop-other-test.true in
    let value = c.generals-other-end.ensures.value in
    let small = c.generals-other-end.ensures.within.few in
    let room : length c.loop-other.orders.items < 13 = omega arith in
    (lit< tt, room)

pub push-requires-then-not-has : goal.push-requires-then-not-has
push-requires-then-not-has g c =
    let few = few_others (element (g.H.Heard.seen c.args.table.now) 0 c.args.label.now c.args.general) c.args.label.now c.loop-other.other in
    let so : length c.loop-other.orders.items ≡ length (map (element (g.H.Heard.seen c.args.table.now) 0 c.args.label.now c.args.general) (others c.loop-other.other c.args.label.now)) = ap length c.loop-other.invariant.0 in
    let below = c.loop-other-test.true in
    let value = c.generals-other-end.ensures.value in
    let small = c.generals-other-end.ensures.within.few in
    let room : length c.loop-other.orders.items < 13 = omega arith in
    (lit< tt, room)

pub bounds-told-next : goal.bounds-told-next
bounds-told-next g c =
    child_within (λ j. order_of (told (g.H.Heard.seen c.args.table.now).messages (c.args.label.now ++ j ∷ []) c.args.general)) (g.H.Heard.seen c.args.table.now).generals c.loop-other.other c.loop-other.next
    (c.args.general ∷ c.args.label.now) c.told_children-told.result.now c.told_children-told.ensures (let value = c.generals-other-end.ensures.value in let below = c.loop-other-test.true in omega arith)
    (off_first c.args.general c.loop-other.other c.args.label.now c.if-other-general.false (sym c.has.ensures ∙ c.if-not-has.true)) c.loop-other.invariant.1

pub offset_bounds-told-next : goal.offset_bounds-told-next
offset_bounds-told-next g c =
    let within : c.loop-other.next < length c.told_children-told.result.now =
    child_within (λ j. order_of (told (g.H.Heard.seen c.args.table.now).messages (c.args.label.now ++ j ∷ []) c.args.general)) (g.H.Heard.seen c.args.table.now).generals c.loop-other.other c.loop-other.next
    (c.args.general ∷ c.args.label.now) c.told_children-told.result.now c.told_children-told.ensures (let value = c.generals-other-end.ensures.value in let below = c.loop-other-test.true in omega arith)
    (off_first c.args.general c.loop-other.other c.args.label.now c.if-other-general.false (sym c.has.ensures ∙ c.if-not-has.true)) c.loop-other.invariant.1
    in
    let fits = c.told_children-told.type_inv.1 in
    omega arith

pub overflow_add-next : goal.overflow_add-next
overflow_add-next g c =
    let within : c.loop-other.next < length c.told_children-told.result.now =
    child_within (λ j. order_of (told (g.H.Heard.seen c.args.table.now).messages (c.args.label.now ++ j ∷ []) c.args.general)) (g.H.Heard.seen c.args.table.now).generals c.loop-other.other c.loop-other.next
    (c.args.general ∷ c.args.label.now) c.told_children-told.result.now c.told_children-told.ensures (let value = c.generals-other-end.ensures.value in let below = c.loop-other-test.true in omega arith)
    (off_first c.args.general c.loop-other.other c.args.label.now c.if-other-general.false (sym c.has.ensures ∙ c.if-not-has.true)) c.loop-other.invariant.1
    in
    let fits = c.told_children-told.type_inv.0 in
    omega arith

pub loop-other-preserved : goal.loop-other-preserved
loop-other-preserved g c =
    let t = g.H.Heard.seen c.args.table.now in
    let w = c.args.label.now in
    let p = c.args.general in
    let other = c.loop-other.other in
    let off = place_off t w p c.requires.place in
    let below : other < t.generals = let value = c.generals-other-end.ensures.value in let l = c.loop-other-test.true in omega arith in
    elim c.if-other-general.branch [
      | then-other-general v ↦ (
        rw (v.orders-is, v.push.ensures.items, c.loop-other.invariant.0, v.unwrap_or.ensures) (own_more t 0 w p other v.told.result v.if-other-general.true off v.told.ensures),
        v.next-is ∙ no_more (p ∷ w) other c.loop-other.next (on_first p other w v.if-other-general.true) c.loop-other.invariant.1,
      )
      | else-other-general+then-not-has v ↦ (
          let here = sym v.has.ensures ∙ v.if-not-has.true in
          let free = off_first p other w v.if-other-general.false here in
          let read : get_or c.told_children-told.result.now c.loop-other.next 0 ≡ order_of (told t.messages (w ++ other ∷ []) p) =
          child_read (λ j. order_of (told t.messages (w ++ j ∷ []) p)) t.generals other c.loop-other.next (p ∷ w) c.told_children-told.result.now 0 c.told_children-told.ensures below free c.loop-other.invariant.1
          in (
            rw (v.orders-is, v.push-then-not-has.ensures.items, c.loop-other.invariant.0)
                (ap (λ (x : ℕ). map (element t 0 w p) (others other w) ++ x ∷ []) (read ∙ order_is (told t.messages (w ++ other ∷ []) p))
                ∙ other_more t 0 w p other (told t.messages (w ++ other ∷ []) p) v.if-other-general.false here (held_last t 0 (w ++ other ∷ []) p refl)),
            v.next-is ∙ one_more (p ∷ w) other c.loop-other.next free c.loop-other.invariant.1,
          )
          )
      | else-other-general+else-not-has v ↦
          let here = sym v.has.ensures ∙ v.if-not-has.false in (
            rw (v.orders-is, c.loop-other.invariant.0) (sym (map_no (element t 0 w p) w other here)),
            v.next-is ∙ no_more (p ∷ w) other c.loop-other.next (on_behind p other w here) c.loop-other.invariant.1,
          )
    ]
