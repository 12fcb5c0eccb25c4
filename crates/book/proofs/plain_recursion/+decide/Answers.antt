use Rattle.std.proofs.Common.{◌≡◌, ◌<◌, ◌∙◌, ◌-◌, arith, refl, sym, ap, false, suc, map, length, lit<}
use Rattle.label.specs.Labels.{on, others}
use Rattle.book.specs.Explained.{decided, element}
use Rattle.book.proofs.Gathering.{few_others, map_no}
use Rattle.book.proofs.Lookup.{own_element, other_element, element_more, decided_all}
use Rattle.book.proofs.plain_recursion.+decide.Goals as goal
use Rattle.book.proofs.plain_recursion.+decide.Goals.{then-not-has, then-other-general, else-other-general, else-not-has}

pub push-requires : goal.push-requires
push-requires t c =
    let few = few_others (element c.args.table.now (c.args.relays - 1) c.args.label.now c.args.general) c.args.label.now c.loop-other.other in
    let so : length c.loop-other.orders.items ≡ length (map (element c.args.table.now (c.args.relays - 1) c.args.label.now c.args.general) (others c.loop-other.other c.args.label.now)) = ap length c.loop-other.invariant in
    let within = c.generals-other-end.ensures.value in
    let small = c.generals-other-end.ensures.within.few in
    let room : length c.loop-other.orders.items < 13 = omega arith in
    (lit< tt, room)

pub loop-other-preserved : goal.loop-other-preserved
loop-other-preserved t c =
    elim c.if-not-has.branch [
      | then-not-has w ↦
          let off : on c.args.label.now c.loop-other.other ≡ false = sym c.has.ensures ∙ w.if-not-has.true in
          let is : w.if-other-general.order ≡ element c.args.table.now (c.args.relays - 1) c.args.label.now c.args.general c.loop-other.other =
          elim w.if-other-general.branch [
            | then-other-general v ↦ v.order-is ∙ own_element c.args.table.now (c.args.relays - 1) c.args.label.now c.args.general c.loop-other.other c.taken-own.result v.if-other-general.true (c.taken-own.ensures ∙ rw c.messages.ensures refl)
            | else-other-general v ↦ v.order-is ∙ other_element c.args.table.now (c.args.relays - 1) c.args.label.now c.args.general c.loop-other.other v.decide-order.result v.if-other-general.false (v.decide-order.ensures ∙ ap (λ u. decided c.args.table.now (c.args.relays - 1) u c.args.general) v.with.ensures)
          ]
          in
          rw (w.orders-is, w.push.ensures.items, c.loop-other.invariant) (element_more c.args.table.now (c.args.relays - 1) c.args.label.now c.args.general c.loop-other.other w.if-other-general.order off is)
      | else-not-has w ↦
          rw (w.orders-is, c.loop-other.invariant) (sym (map_no (element c.args.table.now (c.args.relays - 1) c.args.label.now c.args.general) c.args.label.now c.loop-other.other (sym c.has.ensures ∙ w.if-not-has.false)))
    ]

pub returns : goal.returns
returns t c =
    let value = c.generals-other-end.ensures.value in
    let ne = c.if-relays-eq0.false in
    let more : c.args.relays ≡ suc (c.args.relays - 1) = omega arith in
    let all : c.loop-other.other ≡ c.args.table.now.generals = omega arith in
    rw (c.combine.ensures, c.rule.ensures, c.as_slice.ensures.value) (decided_all c.args.table.now c.args.relays (c.args.relays - 1) c.args.label.now c.args.general c.loop-other.other c.loop-other.orders.items more all c.loop-other.invariant)
