use Rattle.std.proofs.Common.{◌≡◌, ◌<◌, ◌∙◌, ◌-◌, suc, arith, sym, ap, lit<, length, map}
use Rattle.book.specs.Explained.{element, held}
use Rattle.book.proofs.Gathering.{few_others, map_no}
use Rattle.book.proofs.ListLemmas.{place_off, held_last, own_more, other_more}
use Rattle.label.specs.Labels.{others}
use Rattle.show_tree.proofs.FactLemmas.{held_more}
use Rattle.show_tree.proofs.NextPlaces.{next_fits}
use Rattle.show_tree.proofs.facts.+lists.Goals as goal
use Rattle.show_tree.proofs.facts.+lists.Goals.{orders-then-other-general, orders-else-other-general+then-not-has, orders-else-other-general+else-not-has}

pub held-returns-then-relays-eq0 : goal.held-returns-then-relays-eq0
held-returns-then-relays-eq0 g t c = c.told.ensures ∙ held_last (g.H.Heard.seen c.args.table.now) c.args.relays c.args.label.now c.args.general c.if-relays-eq0.true

pub held-returns : goal.held-returns
held-returns g t c =
    let ne = c.if-relays-eq0.false in
    let more : c.args.relays ≡ suc (c.args.relays - 1) = omega arith in
    rw (c.combine.ensures, c.rule.ensures) (held_more (g.H.Heard.seen c.args.table.now) c.args.relays (c.args.relays - 1) c.args.label.now c.args.general c.as_slice.result.now more (c.as_slice.ensures.value ∙ c.orders-orders.ensures))

pub orders-push-requires : goal.orders-push-requires
orders-push-requires g t c =
    let few = few_others (element (g.H.Heard.seen c.args.table.now) c.args.relays c.args.label.now c.args.general) c.args.label.now c.loop-other.other in
    let so : length c.loop-other.orders.items ≡ length (map (element (g.H.Heard.seen c.args.table.now) c.args.relays c.args.label.now c.args.general) (others c.loop-other.other c.args.label.now)) = ap length c.loop-other.invariant in
    let within = c.generals-other-end.ensures.value in
    let small = c.generals-other-end.ensures.within.few in
    let room : length c.loop-other.orders.items < 13 = omega arith in
    (lit< tt, room)

pub orders-push-requires-then-not-has : goal.orders-push-requires-then-not-has
orders-push-requires-then-not-has g t c =
    let few = few_others (element (g.H.Heard.seen c.args.table.now) c.args.relays c.args.label.now c.args.general) c.args.label.now c.loop-other.other in
    let so : length c.loop-other.orders.items ≡ length (map (element (g.H.Heard.seen c.args.table.now) c.args.relays c.args.label.now c.args.general) (others c.loop-other.other c.args.label.now)) = ap length c.loop-other.invariant in
    let within = c.generals-other-end.ensures.value in
    let small = c.generals-other-end.ensures.within.few in
    let room : length c.loop-other.orders.items < 13 = omega arith in
    (lit< tt, room)

pub orders-held-requires : goal.orders-held-requires
orders-held-requires g t c =
    let sum = c.requires.relays in
    let value = c.generals-other-end.ensures.value in
    let test = c.loop-other-test.true in
    let below : c.loop-other.other < (g.H.Heard.seen c.args.table.now).generals = omega arith in
    let fits = next_fits (g.H.Heard.seen c.args.table.now) c.args.label.now c.with.result c.loop-other.other c.args.general c.requires.place (omega arith) below (sym c.has.ensures ∙ c.if-not-has.true) c.if-other-general.false c.with.ensures in
    let long = fits.1 in
    let less = c.decreases in
    λ κs within. (omega arith, ((search), (fits.0, omega arith)))

pub orders-loop-other-preserved : goal.orders-loop-other-preserved
orders-loop-other-preserved g t c =
    let off = place_off (g.H.Heard.seen c.args.table.now) c.args.label.now c.args.general c.requires.place in
    elim c.if-other-general.branch [
      | orders-then-other-general w ↦
          rw (w.orders-is, w.push.ensures.items, c.loop-other.invariant, w.unwrap_or.ensures) (own_more (g.H.Heard.seen c.args.table.now) c.args.relays c.args.label.now c.args.general c.loop-other.other w.told.result w.if-other-general.true off w.told.ensures)
      | orders-else-other-general+then-not-has w ↦
          let here = sym w.has.ensures ∙ w.if-not-has.true in
          rw (w.orders-is, w.push-then-not-has.ensures.items, c.loop-other.invariant, w.unwrap_or-then-not-has.ensures) (other_more (g.H.Heard.seen c.args.table.now) c.args.relays c.args.label.now c.args.general c.loop-other.other w.held.result w.if-other-general.false here (w.held.ensures ∙ ap (λ v. held (g.H.Heard.seen c.args.table.now) c.args.relays v c.args.general) w.with.ensures))
      | orders-else-other-general+else-not-has w ↦
          let here = sym w.has.ensures ∙ w.if-not-has.false in
          rw (w.orders-is, c.loop-other.invariant) (sym (map_no (element (g.H.Heard.seen c.args.table.now) c.args.relays c.args.label.now c.args.general) c.args.label.now c.loop-other.other here))
    ]
