use Rattle.std.proofs.Common.{ℕ, ◌∙◌, ◌∷◌, Bool, sym}
use Rattle.std.specs.Prelude.{nat_le}
use Rattle.book.proofs.Gathering.{off_first, on_first, on_behind}
use Rattle.show_tree.proofs.Gathered.{all_passed, all_failed, all_passed_over}
use Rattle.show_tree.proofs.places.is_last.Goals as goal
use Rattle.show_tree.proofs.places.is_last.Goals.{then-other-general+then-not-has+then-is_last, then-other-general+then-not-has+else-is_last, else-other-general, else-other-general-via-then-other-general+else-not-has, else-other-general-via-else-other-general}

pub loop-other-preserved : goal.loop-other-preserved
loop-other-preserved c =
    let test : ℕ → Bool = λ i. nat_le i c.args.teller in
    let other = c.loop-other.other in
    elim c.if-other-general.branch [
      | then-other-general+then-not-has+then-is_last w ↦
          let off = off_first c.args.general other c.args.before.now w.if-other-general.true (sym w.has.ensures ∙ w.if-not-has.true) in
          all_passed test (c.args.general ∷ c.args.before.now) other c.loop-other.is_last c.if-other-general.is_last off c.loop-other.invariant w.if-is_last.true w.is_last-is
      | then-other-general+then-not-has+else-is_last w ↦
          let off = off_first c.args.general other c.args.before.now w.if-other-general.true (sym w.has.ensures ∙ w.if-not-has.true) in
          all_failed test (c.args.general ∷ c.args.before.now) other c.loop-other.is_last c.if-other-general.is_last off c.loop-other.invariant w.if-is_last.false (w.is_last-is ∙ w.if-is_last.false)
      | else-other-general w ↦
          elim w.else-other-general.branch [
            | else-other-general-via-then-other-general+else-not-has v ↦
                all_passed_over test (c.args.general ∷ c.args.before.now) other c.loop-other.is_last c.if-other-general.is_last (on_behind c.args.general other c.args.before.now (sym v.has.ensures ∙ v.if-not-has.false)) c.loop-other.invariant w.is_last-is
            | else-other-general-via-else-other-general v ↦
                all_passed_over test (c.args.general ∷ c.args.before.now) other c.loop-other.is_last c.if-other-general.is_last (on_first c.args.general other c.args.before.now v.if-other-general.false) c.loop-other.invariant w.is_last-is
          ]
    ]
