use Rattle.std.proofs.Common.{ℕ, List, ◌≡◌, ◌-◌, ◌∙◌, ◌++◌, ◌∷◌, ap, arith, sym, append-nil}
use Rattle.std.specs.List.{flat_map}
use Rattle.label.specs.Labels.{others}
use Rattle.book.proofs.Gathering.{off_first, on_first, on_behind}
use Rattle.show_tree.proofs.Gathered.{gathered_yes, gathered_no}
use Rattle.show_diagram.specs.declared.told_order.Telling.{Telling}
use Rattle.show_diagram.specs.Facts.{tellings_by}
use Rattle.show_diagram.proofs.TellingLemmas.{below_last, below_more, by_same}
use Rattle.show_diagram.proofs.told_orders.+push_below.Goals as goal
use Rattle.show_diagram.proofs.told_orders.+push_below.Goals.{then-other-general+then-not-has+in_ok-push+in_ok-push_below, else-other-general, else-other-general-via-then-other-general+else-not-has, else-other-general-via-else-other-general}

pub returns-then-relays-eq0 : goal.returns-then-relays-eq0
returns-then-relays-eq0 g t c =
    sym (ap (λ xs. c.args.tellings.now.items ++ xs) (below_last (g.H.Heard.seen c.args.table.now) c.args.relays c.args.label.now c.args.general c.if-relays-eq0.true) ∙ append-nil c.args.tellings.now.items)

pub loop-other-preserved : goal.loop-other-preserved
loop-other-preserved g t c =
    let his : ℕ → List Telling = tellings_by (g.H.Heard.seen c.args.table.now) (c.args.relays - 1) c.args.label.now c.args.general in
    let other = c.loop-other.other in
    elim c.if-other-general.branch [
      | then-other-general+then-not-has+in_ok-push+in_ok-push_below w ↦
          let off = off_first c.args.general other c.args.label.now w.if-other-general.true (sym w.has.ensures ∙ w.if-not-has.true) in
          let here = by_same (g.H.Heard.seen c.args.table.now) (c.args.relays - 1) c.args.label.now c.args.general other w.telling.result w.with-next.result
          c.loop-other.tellings.items w.push.new.self.items w.push_below.new.tellings.items
          w.telling.ensures w.with-next.ensures w.in_ok-push.ensures.items w.in_ok-push_below.ensures in
          ap (λ v. v.items) w.tellings-is ∙ (here ∙ (ap (λ xs. xs ++ his other) c.loop-other.invariant ∙ gathered_yes his (c.args.general ∷ c.args.label.now) other c.args.tellings.now.items off))
      | else-other-general w ↦
          elim w.else-other-general.branch [
            | else-other-general-via-then-other-general+else-not-has v ↦
                ap (λ v. v.items) w.tellings-is ∙ (c.loop-other.invariant ∙ gathered_no his (c.args.general ∷ c.args.label.now) other c.args.tellings.now.items (on_behind c.args.general other c.args.label.now (sym v.has.ensures ∙ v.if-not-has.false)))
            | else-other-general-via-else-other-general v ↦
                ap (λ v. v.items) w.tellings-is ∙ (c.loop-other.invariant ∙ gathered_no his (c.args.general ∷ c.args.label.now) other c.args.tellings.now.items (on_first c.args.general other c.args.label.now v.if-other-general.false))
          ]
    ]

pub returns : goal.returns
returns g t c =
    let value = c.generals-other-end.ensures.value in
    let all : c.loop-other.other ≡ (g.H.Heard.seen c.args.table.now).generals = omega arith in
    let ne = c.if-relays-eq0.false in
    c.loop-other.invariant
    ∙ (ap (λ (n : ℕ). c.args.tellings.now.items ++ flat_map (tellings_by (g.H.Heard.seen c.args.table.now) (c.args.relays - 1) c.args.label.now c.args.general) (others n (c.args.general ∷ c.args.label.now))) all
    ∙ ap (λ xs. c.args.tellings.now.items ++ xs) (sym (below_more (g.H.Heard.seen c.args.table.now) c.args.relays (c.args.relays - 1) c.args.label.now c.args.general (omega arith))))
