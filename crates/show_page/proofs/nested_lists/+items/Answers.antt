use Rattle.std.proofs.Common.{rules, ℕ, List, ◌≡◌, ◌-◌, ◌∙◌, ◌++◌, ◌∷◌, ap, arith, sym, append-nil}
use Rattle.std.specs.List.{flat_map}
use Rattle.std.specs.String.{string_bytes}
use Rattle.label.specs.Labels.{others}
use Rattle.book.proofs.Gathering.{off_first, on_first, on_behind}
use Rattle.show_tree.proofs.Gathered.{gathered_yes, gathered_no}
use Rattle.show_page.specs.Trees.{item_by}
use Rattle.show_page.proofs.TreeLemmas.{item_same, items_last, items_more, opened}
use Rattle.show_page.proofs.nested_lists.+items.Goals as goal
use Rattle.show_page.proofs.nested_lists.+items.Goals.{put_items-then-other-general+then-not-has+in_ok-put_item, put_items-else-other-general, put_items-else-other-general-via-then-other-general+else-not-has, put_items-else-other-general-via-else-other-general}

pub put_item-returns : goal.put_item-returns
put_item-returns g t c =
    opened (g.H.Heard.seen c.args.table.now) c.args.traitors.now c.args.view c.deeper.result c.args.relays c.args.label.now c.args.general c.args.node.now c.as_str-2.result.now
    (string_bytes c.args.out.now) _ _ _ _ _ _ _ (sym c.is_open.ensures ∙ c.if-not-is_open.false) (search rules) c.deeper.ensures
    c.in_ok-put_item_start.ensures c.in_ok-put_fold_start.ensures c.in_ok-put_list_start.ensures c.in_ok-put_items.ensures
    c.in_ok-put_list_end.ensures c.in_ok-put_fold_end.ensures c.in_ok-put_item_end.ensures

pub put_items-returns-then-relays-eq0 : goal.put_items-returns-then-relays-eq0
put_items-returns-then-relays-eq0 g t c =
    sym (ap (λ xs. string_bytes c.args.out.now ++ xs) (items_last (g.H.Heard.seen c.args.table.now) c.args.traitors.now c.args.view c.args.relays c.args.label.now c.args.general c.if-relays-eq0.true) ∙ append-nil (string_bytes c.args.out.now))

pub put_items-loop-other-preserved : goal.put_items-loop-other-preserved
put_items-loop-other-preserved g t c =
    let his : ℕ → List ℕ = item_by (g.H.Heard.seen c.args.table.now) c.args.traitors.now c.args.view (c.args.relays - 1) c.args.label.now c.args.general in
    let other = c.loop-other.other in
    elim c.if-other-general.branch [
      | put_items-then-other-general+then-not-has+in_ok-put_item w ↦
          let off = off_first c.args.general other c.args.label.now w.if-other-general.true (sym w.has.ensures ∙ w.if-not-has.true) in
          let here = item_same (g.H.Heard.seen c.args.table.now) c.args.traitors.now c.args.view (c.args.relays - 1) c.args.label.now other c.args.general w.with.result w.with-next.result w.mark_at-mark.result w.node_at-node.result
          w.with.ensures w.with-next.ensures w.mark_at-mark.ensures w.node_at-node.ensures in
          ap string_bytes w.out-is ∙ (w.in_ok-put_item.ensures ∙ (ap (λ xs. string_bytes c.loop-other.out ++ xs) here ∙ (ap (λ xs. xs ++ his other) c.loop-other.invariant ∙ gathered_yes his (c.args.general ∷ c.args.label.now) other (string_bytes c.args.out.now) off)))
      | put_items-else-other-general w ↦
          elim w.else-other-general.branch [
            | put_items-else-other-general-via-then-other-general+else-not-has v ↦
                ap string_bytes w.out-is ∙ (c.loop-other.invariant ∙ gathered_no his (c.args.general ∷ c.args.label.now) other (string_bytes c.args.out.now) (on_behind c.args.general other c.args.label.now (sym v.has.ensures ∙ v.if-not-has.false)))
            | put_items-else-other-general-via-else-other-general v ↦
                ap string_bytes w.out-is ∙ (c.loop-other.invariant ∙ gathered_no his (c.args.general ∷ c.args.label.now) other (string_bytes c.args.out.now) (on_first c.args.general other c.args.label.now v.if-other-general.false))
          ]
    ]

pub put_items-returns : goal.put_items-returns
put_items-returns g t c =
    let value = c.generals-other-end.ensures.value in
    let all : c.loop-other.other ≡ (g.H.Heard.seen c.args.table.now).generals = omega arith in
    let ne = c.if-relays-eq0.false in
    c.loop-other.invariant
    ∙ (ap (λ (n : ℕ). string_bytes c.args.out.now ++ flat_map (item_by (g.H.Heard.seen c.args.table.now) c.args.traitors.now c.args.view (c.args.relays - 1) c.args.label.now c.args.general) (others n (c.args.general ∷ c.args.label.now))) all
    ∙ ap (λ xs. string_bytes c.args.out.now ++ xs) (sym (items_more (g.H.Heard.seen c.args.table.now) c.args.traitors.now c.args.view c.args.relays (c.args.relays - 1) c.args.label.now c.args.general (omega arith))))
