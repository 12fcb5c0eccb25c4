use Rattle.std.proofs.Common.{◌≡◌, ◌<◌, ◌∙◌, ◌-◌, ◌++◌, ◌∷◌, [], arith, refl, sym, ap, ℕ, suc, List, map, length, lit<, append-nil}
use Rattle.std.specs.Fmt.{decimal}
use Rattle.std.specs.String.{string_bytes}
use Rattle.label.specs.Labels.{others}
use Rattle.combine.specs.Rule.{outcome_of}
use Rattle.combine.specs.Outcome.{outcome_words}
use Rattle.book.specs.Explained.{element, held, list_lines, part}
use Rattle.book.proofs.Gathering.{few_others, text_yes, text_no, lines_yes, lines_no, map_no, on_first, on_behind, off_first}
use Rattle.book.proofs.ListLemmas.{place_off, held_last, lines_last, own_more, other_more, held_all, lines_all}
use Rattle.book.proofs.lists.+push_lists.Goals as goal
use Rattle.book.proofs.lists.+push_lists.Goals.{then-other-general, else-other-general+then-not-has+in_ok-held+in_ok-push_part, else-other-general+else-not-has}

pub returns-then-relays-eq0-clause-held : goal.returns-then-relays-eq0-clause-held
returns-then-relays-eq0-clause-held g t c = c.told-told.ensures ∙ held_last (g.H.Heard.seen c.args.table.now) c.args.relays c.args.label.now c.args.general c.if-relays-eq0.true

pub returns-then-relays-eq0-clause-lines : goal.returns-then-relays-eq0-clause-lines
returns-then-relays-eq0-clause-lines g t c = sym (ap (λ xs. string_bytes c.args.lines.now ++ xs) (lines_last (g.H.Heard.seen c.args.table.now) c.args.relays c.args.label.now c.args.general c.if-relays-eq0.true) ∙ append-nil (string_bytes c.args.lines.now))

pub push-requires : goal.push-requires
push-requires g t c =
    let few = few_others (element (g.H.Heard.seen c.args.table.now) (c.args.relays - 1) c.args.label.now c.args.general) c.args.label.now c.loop-other.other in
    let so : length c.loop-other.orders.items ≡ length (map (element (g.H.Heard.seen c.args.table.now) (c.args.relays - 1) c.args.label.now c.args.general) (others c.loop-other.other c.args.label.now)) = ap length c.loop-other.invariant.orders in
    let within = c.generals-other-end.ensures.value in
    let small = c.generals-other-end.ensures.within.few in
    let room : length c.loop-other.orders.items < 13 = omega arith in
    (lit< tt, room)

pub push-requires-then-not-has : goal.push-requires-then-not-has
push-requires-then-not-has g t c =
    let few = few_others (element (g.H.Heard.seen c.args.table.now) (c.args.relays - 1) c.args.label.now c.args.general) c.args.label.now c.loop-other.other in
    let so : length c.loop-other.orders.items ≡ length (map (element (g.H.Heard.seen c.args.table.now) (c.args.relays - 1) c.args.label.now c.args.general) (others c.loop-other.other c.args.label.now)) = ap length c.loop-other.invariant.orders in
    let within = c.generals-other-end.ensures.value in
    let small = c.generals-other-end.ensures.within.few in
    let room : length c.loop-other.orders.items < 13 = omega arith in
    (lit< tt, room)

pub loop-other-preserved : goal.loop-other-preserved
loop-other-preserved g t c =
    let line : ℕ → List ℕ = λ i. list_lines (g.H.Heard.seen c.args.table.now) (c.args.relays - 1) (c.args.label.now ++ i ∷ []) c.args.general in
    let his : ℕ → List ℕ = part (g.H.Heard.seen c.args.table.now) (c.args.relays - 1) c.args.label.now c.args.general in
    let off = place_off (g.H.Heard.seen c.args.table.now) c.args.label.now c.args.general c.requires.1.1.1.0 in
    elim c.if-other-general.branch [
      | then-other-general w ↦
          let first = on_first c.args.general c.loop-other.other c.args.label.now w.if-other-general.true in
          record {
            orders = rw (w.orders-is, w.push.ensures.items, c.loop-other.invariant.orders, w.unwrap_or.ensures) (own_more (g.H.Heard.seen c.args.table.now) (c.args.relays - 1) c.args.label.now c.args.general c.loop-other.other c.told-told.result w.if-other-general.true off c.told-told.ensures);
            lines = rw (w.lines-is, c.loop-other.invariant.lines) (text_no line (c.args.general ∷ c.args.label.now) c.loop-other.other (string_bytes c.args.lines.now) first);
            parts = rw (w.parts-is, c.loop-other.invariant.parts) (sym (lines_no his (c.args.general ∷ c.args.label.now) c.loop-other.other first));
          }
      | else-other-general+then-not-has+in_ok-held+in_ok-push_part w ↦
          let here = sym w.has.ensures ∙ w.if-not-has.true in
          let both = off_first c.args.general c.loop-other.other c.args.label.now w.if-other-general.false here in
          let name = ap (λ text. text ++ decimal c.loop-other.other) w.as_str-begun.ensures.value ∙ c.in_ok-ahead.ensures c.loop-other.other in
          record {
            orders = rw (w.orders-is, w.push-then-not-has.ensures.items, c.loop-other.invariant.orders, w.unwrap_or-then-not-has.ensures) (other_more (g.H.Heard.seen c.args.table.now) (c.args.relays - 1) c.args.label.now c.args.general c.loop-other.other w.in_ok-held.held w.if-other-general.false here (w.in_ok-held.ensures.held ∙ ap (λ v. held (g.H.Heard.seen c.args.table.now) (c.args.relays - 1) v c.args.general) w.with-next.ensures));
            lines = rw (w.lines-is, w.in_ok-held.ensures.lines, c.loop-other.invariant.lines, w.with-next.ensures) (text_yes line (c.args.general ∷ c.args.label.now) c.loop-other.other (string_bytes c.args.lines.now) both);
            parts = rw (w.parts-is, w.in_ok-push_part.ensures (c.args.label.now ++ c.loop-other.other ∷ []) name, c.loop-other.invariant.parts, w.in_ok-held.ensures.held, w.with-next.ensures) (sym (lines_yes his (c.args.general ∷ c.args.label.now) c.loop-other.other both));
          }
      | else-other-general+else-not-has w ↦
          let here = sym w.has.ensures ∙ w.if-not-has.false in
          let behind = on_behind c.args.general c.loop-other.other c.args.label.now here in
          record {
            orders = rw (w.orders-is, c.loop-other.invariant.orders) (sym (map_no (element (g.H.Heard.seen c.args.table.now) (c.args.relays - 1) c.args.label.now c.args.general) c.args.label.now c.loop-other.other here));
            lines = rw (w.lines-is, c.loop-other.invariant.lines) (text_no line (c.args.general ∷ c.args.label.now) c.loop-other.other (string_bytes c.args.lines.now) behind);
            parts = rw (w.parts-is, c.loop-other.invariant.parts) (sym (lines_no his (c.args.general ∷ c.args.label.now) c.loop-other.other behind));
          }
    ]

pub returns-clause-held : goal.returns-clause-held
returns-clause-held g t c =
    let value = c.generals-other-end.ensures.value in
    let ne = c.if-relays-eq0.false in
    let more : c.args.relays ≡ suc (c.args.relays - 1) = omega arith in
    let all : c.loop-other.other ≡ (g.H.Heard.seen c.args.table.now).generals = omega arith in
    rw (c.order-order.ensures, c.outcome-outcome.ensures.order, c.rule.ensures, c.as_slice.ensures.value) (held_all (g.H.Heard.seen c.args.table.now) c.args.relays (c.args.relays - 1) c.args.label.now c.args.general c.loop-other.other c.loop-other.orders.items more all c.loop-other.invariant.orders)

pub returns-clause-lines : goal.returns-clause-lines
returns-clause-lines g t c =
    let value = c.generals-other-end.ensures.value in
    let ne = c.if-relays-eq0.false in
    let more : c.args.relays ≡ suc (c.args.relays - 1) = omega arith in
    let all : c.loop-other.other ≡ (g.H.Heard.seen c.args.table.now).generals = omega arith in
    let out : (c.head-words.result.now ++ decimal c.order-order.result) ≡ outcome_words (outcome_of (g.H.Heard.seen c.args.table.now).rule c.loop-other.orders.items) = rw (c.head-words.ensures, c.order-order.ensures, c.outcome-outcome.ensures.value, c.rule.ensures, c.as_slice.ensures.value) refl in
    lines_all (g.H.Heard.seen c.args.table.now) c.args.relays (c.args.relays - 1) c.args.label.now c.args.general c.loop-other.other (string_bytes c.args.lines.now) (string_bytes c.push_list.new.lines) (string_bytes c.loop-other.lines) (string_bytes c.loop-other.parts) (c.head-words.result.now ++ decimal c.order-order.result) c.loop-other.orders.items c.told-told.result
    more all c.loop-other.invariant.lines c.loop-other.invariant.parts c.loop-other.invariant.orders out c.told-told.ensures (rw c.as_str.ensures.value at (c.in_ok-push_list.ensures c.args.label.now c.requires.1.1.1.1.0))
