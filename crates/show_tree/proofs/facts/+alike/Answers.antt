use Rattle.std.proofs.Common.{ℕ, ◌≡◌, ◌∙◌, ◌-◌, ◌∷◌, Bool, ap, arith, sym}
use Rattle.std.specs.List.{list_all}
use Rattle.label.specs.Labels.{others}
use Rattle.book.proofs.Gathering.{off_first, on_first, on_behind}
use Rattle.show_tree.specs.Facts.{is_alike_by}
use Rattle.show_tree.proofs.FactLemmas.{alike_last, alike_more}
use Rattle.show_tree.proofs.Gathered.{all_passed, all_failed, all_passed_over}
use Rattle.show_tree.proofs.facts.+alike.Goals as goal
use Rattle.show_tree.proofs.facts.+alike.Goals.{is_alike-then-other-general+then-not-has+then-is_so, is_alike-then-other-general+then-not-has+else-is_so, is_alike-else-other-general, is_alike-else-other-general-via-then-other-general+else-not-has, is_alike-else-other-general-via-else-other-general}

pub is_alike-returns-then-relays-eq0 : goal.is_alike-returns-then-relays-eq0
is_alike-returns-then-relays-eq0 g t c = alike_last (g.H.Heard.seen c.args.table.now) c.args.traitors.now c.args.relays c.args.label.now c.args.general c.if-relays-eq0.true

pub is_alike-loop-other-preserved : goal.is_alike-loop-other-preserved
is_alike-loop-other-preserved g t c =
    let test : ℕ → Bool = λ j. is_alike_by (g.H.Heard.seen c.args.table.now) c.args.traitors.now (c.args.relays - 1) c.args.label.now j c.args.general in
    let other = c.loop-other.other in
    elim c.if-other-general.branch [
      | is_alike-then-other-general+then-not-has+then-is_so w ↦
          let off = off_first c.args.general other c.args.label.now w.if-other-general.true (sym w.has.ensures ∙ w.if-not-has.true) in
          all_passed test (c.args.general ∷ c.args.label.now) other c.loop-other.is_so c.if-other-general.is_so off c.loop-other.invariant w.if-is_so.true (w.is_so-is ∙ w.is_alike_by-is_so.ensures)
      | is_alike-then-other-general+then-not-has+else-is_so w ↦
          let off = off_first c.args.general other c.args.label.now w.if-other-general.true (sym w.has.ensures ∙ w.if-not-has.true) in
          all_failed test (c.args.general ∷ c.args.label.now) other c.loop-other.is_so c.if-other-general.is_so off c.loop-other.invariant w.if-is_so.false (w.is_so-is ∙ w.if-is_so.false)
      | is_alike-else-other-general w ↦
          elim w.else-other-general.branch [
            | is_alike-else-other-general-via-then-other-general+else-not-has v ↦
                all_passed_over test (c.args.general ∷ c.args.label.now) other c.loop-other.is_so c.if-other-general.is_so (on_behind c.args.general other c.args.label.now (sym v.has.ensures ∙ v.if-not-has.false)) c.loop-other.invariant w.is_so-is
            | is_alike-else-other-general-via-else-other-general v ↦
                all_passed_over test (c.args.general ∷ c.args.label.now) other c.loop-other.is_so c.if-other-general.is_so (on_first c.args.general other c.args.label.now v.if-other-general.false) c.loop-other.invariant w.is_so-is
          ]
    ]

pub is_alike-returns : goal.is_alike-returns
is_alike-returns g t c =
    let value = c.generals-other-end.ensures.value in
    let all : c.loop-other.other ≡ (g.H.Heard.seen c.args.table.now).generals = omega arith in
    let ne = c.if-relays-eq0.false in
    c.loop-other.invariant
    ∙ (ap (λ (n : ℕ). list_all (λ j. is_alike_by (g.H.Heard.seen c.args.table.now) c.args.traitors.now (c.args.relays - 1) c.args.label.now j c.args.general) (others n (c.args.general ∷ c.args.label.now))) all
    ∙ sym (alike_more (g.H.Heard.seen c.args.table.now) c.args.traitors.now c.args.relays (c.args.relays - 1) c.args.label.now c.args.general (omega arith)))
