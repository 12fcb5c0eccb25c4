use Rattle.std.proofs.Common.{ℕ, List, ◌≡◌, ◌<◌, ◌-◌, ◌∙◌, ◌++◌, ◌∷◌, ap, arith, sym, append-nil}
use Rattle.std.specs.List.{flat_map}
use Rattle.label.specs.Labels.{others}
use Rattle.book.proofs.Gathering.{off_first, on_first, on_behind}
use Rattle.show_tree.specs.declared.node.Node.{Node}
use Rattle.show_tree.specs.Shown.{nodes_by}
use Rattle.show_tree.proofs.Gathered.{gathered_yes, gathered_no}
use Rattle.show_tree.proofs.NextPlaces.{next_fits}
use Rattle.show_tree.proofs.ShownLemmas.{below_last, below_more, with_same}
use Rattle.show_tree.proofs.shown_labels.+pushes.Goals as goal
use Rattle.show_tree.proofs.shown_labels.+pushes.Goals.{push_below-then-other-general+then-not-has+in_ok-push_with, push_below-else-other-general, push_below-else-other-general-via-then-other-general+else-not-has, push_below-else-other-general-via-else-other-general}

pub push_below-returns-then-relays-eq0 : goal.push_below-returns-then-relays-eq0
push_below-returns-then-relays-eq0 g t c =
    sym (ap (λ xs. c.args.nodes.now.items ++ xs) (below_last (g.H.Heard.seen c.args.table.now) c.args.traitors.now c.args.view c.args.relays c.args.label.now c.args.general c.if-relays-eq0.true) ∙ append-nil c.args.nodes.now.items)

pub push_below-mark_at-mark-requires-clause-place : goal.push_below-mark_at-mark-requires-clause-place
push_below-mark_at-mark-requires-clause-place g t c =
    let some = c.if-relays-eq0.false in
    let sum = c.requires.relays in
    let value = c.generals-other-end.ensures.value in
    let test = c.loop-other-test.true in
    let below : c.loop-other.other < (g.H.Heard.seen c.args.table.now).generals = omega arith in
    let fits = next_fits (g.H.Heard.seen c.args.table.now) c.args.label.now c.with-next.result c.loop-other.other c.args.general c.requires.place (omega arith) below (sym c.has.ensures ∙ c.if-not-has.true) c.if-other-general.true c.with-next.ensures in
    fits.0

pub push_below-node_at-child-requires-clause-place : goal.push_below-node_at-child-requires-clause-place
push_below-node_at-child-requires-clause-place g t c =
    let some = c.if-relays-eq0.false in
    let sum = c.requires.relays in
    let value = c.generals-other-end.ensures.value in
    let test = c.loop-other-test.true in
    let below : c.loop-other.other < (g.H.Heard.seen c.args.table.now).generals = omega arith in
    let fits = next_fits (g.H.Heard.seen c.args.table.now) c.args.label.now c.with.result c.loop-other.other c.args.general c.requires.place (omega arith) below (sym c.has.ensures ∙ c.if-not-has.true) c.if-other-general.true c.with.ensures in
    fits.0

pub push_below-node_at-child-requires-clause-relays : goal.push_below-node_at-child-requires-clause-relays
push_below-node_at-child-requires-clause-relays g t c =
    let some = c.if-relays-eq0.false in
    let sum = c.requires.relays in
    let value = c.generals-other-end.ensures.value in
    let test = c.loop-other-test.true in
    let below : c.loop-other.other < (g.H.Heard.seen c.args.table.now).generals = omega arith in
    let fits = next_fits (g.H.Heard.seen c.args.table.now) c.args.label.now c.with.result c.loop-other.other c.args.general c.requires.place (omega arith) below (sym c.has.ensures ∙ c.if-not-has.true) c.if-other-general.true c.with.ensures in
    let long = fits.1 in omega arith

pub push_below-push_with-requires : goal.push_below-push_with-requires
push_below-push_with-requires g t c =
    let some = c.if-relays-eq0.false in
    let sum = c.requires.relays in
    let value = c.generals-other-end.ensures.value in
    let test = c.loop-other-test.true in
    let below : c.loop-other.other < (g.H.Heard.seen c.args.table.now).generals = omega arith in
    let fits = next_fits (g.H.Heard.seen c.args.table.now) c.args.label.now c.with-next.result c.loop-other.other c.args.general c.requires.place (omega arith) below (sym c.has.ensures ∙ c.if-not-has.true) c.if-other-general.true c.with-next.ensures in
    let long = fits.1 in
    let less = c.decreases in
    λ κs within. (omega arith, ((search), (fits.0, omega arith)))

pub push_below-loop-other-preserved : goal.push_below-loop-other-preserved
push_below-loop-other-preserved g t c =
    let his : ℕ → List Node = λ j. nodes_by (g.H.Heard.seen c.args.table.now) c.args.traitors.now c.args.view (c.args.relays - 1) c.args.label.now j c.args.general in
    let other = c.loop-other.other in
    elim c.if-other-general.branch [
      | push_below-then-other-general+then-not-has+in_ok-push_with w ↦
          let off = off_first c.args.general other c.args.label.now w.if-other-general.true (sym w.has.ensures ∙ w.if-not-has.true) in
          let here = with_same (g.H.Heard.seen c.args.table.now) c.args.traitors.now c.args.view (c.args.relays - 1) c.args.label.now other c.args.general w.with.result w.with-next.result w.mark_at-mark.result w.node_at-child.result
          w.with.ensures w.with-next.ensures w.mark_at-mark.ensures w.node_at-child.ensures in
          ap (λ v. v.items) w.nodes-is ∙ (w.in_ok-push_with.ensures ∙ (ap (λ xs. c.loop-other.nodes.items ++ xs) here ∙ (ap (λ xs. xs ++ his other) c.loop-other.invariant ∙ gathered_yes his (c.args.general ∷ c.args.label.now) other c.args.nodes.now.items off)))
      | push_below-else-other-general w ↦
          elim w.else-other-general.branch [
            | push_below-else-other-general-via-then-other-general+else-not-has v ↦
                ap (λ v. v.items) w.nodes-is ∙ (c.loop-other.invariant ∙ gathered_no his (c.args.general ∷ c.args.label.now) other c.args.nodes.now.items (on_behind c.args.general other c.args.label.now (sym v.has.ensures ∙ v.if-not-has.false)))
            | push_below-else-other-general-via-else-other-general v ↦
                ap (λ v. v.items) w.nodes-is ∙ (c.loop-other.invariant ∙ gathered_no his (c.args.general ∷ c.args.label.now) other c.args.nodes.now.items (on_first c.args.general other c.args.label.now v.if-other-general.false))
          ]
    ]

pub push_below-returns : goal.push_below-returns
push_below-returns g t c =
    let value = c.generals-other-end.ensures.value in
    let all : c.loop-other.other ≡ (g.H.Heard.seen c.args.table.now).generals = omega arith in
    let ne = c.if-relays-eq0.false in
    c.loop-other.invariant
    ∙ (ap (λ (n : ℕ). c.args.nodes.now.items ++ flat_map (λ j. nodes_by (g.H.Heard.seen c.args.table.now) c.args.traitors.now c.args.view (c.args.relays - 1) c.args.label.now j c.args.general) (others n (c.args.general ∷ c.args.label.now))) all
    ∙ ap (λ xs. c.args.nodes.now.items ++ xs) (sym (below_more (g.H.Heard.seen c.args.table.now) c.args.traitors.now c.args.view c.args.relays (c.args.relays - 1) c.args.label.now c.args.general (omega arith))))
