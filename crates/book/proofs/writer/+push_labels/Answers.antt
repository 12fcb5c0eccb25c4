use Rattle.std.proofs.Common.{◌≡◌, ◌∙◌, ◌-◌, ◌++◌, ◌∷◌, [], arith, sym, ap, ℕ, suc, List}
use Rattle.std.specs.List.{flat_map}
use Rattle.std.specs.String.{string_bytes}
use Rattle.label.specs.Labels.{others}
use Rattle.book.proofs.Gathering.{text_yes, text_no}
use Rattle.book.specs.Written.{Marking, lines_from}
use Rattle.book.proofs.writer.+push_labels.Goals as goal
use Rattle.book.proofs.writer.+push_labels.Goals.{then-not-has+in_ok-longer+in_ok-push_labels, else-not-has}

pub loop-general-preserved : goal.loop-general-preserved
loop-general-preserved g t c =
    let line : ℕ → List ℕ = λ j. lines_from (g.M.Marks.marking c.args.marks.now) c.args.generals (c.args.more - 1) (c.args.label.now ++ j ∷ []) in
    elim c.if-not-has.branch [
      | then-not-has+in_ok-longer+in_ok-push_labels w ↦
          rw (w.text-is, w.in_ok-push_labels.ensures, c.loop-general.invariant, w.with-next.ensures) (text_yes line c.args.label.now c.loop-general.general (string_bytes c.args.text.now) (sym c.has.ensures ∙ w.if-not-has.true))
      | else-not-has w ↦
          rw (w.text-is, c.loop-general.invariant) (text_no line c.args.label.now c.loop-general.general (string_bytes c.args.text.now) (sym c.has.ensures ∙ w.if-not-has.false))
    ]

more_lines : (mark : Marking) (n r k : ℕ) (w : List ℕ) → r ≡ suc k → flat_map (λ j. lines_from mark n k (w ++ j ∷ [])) (others n w) ≡ lines_from mark n r w
unfolding lines_from
more_lines mark n r k w e = sym (ap (λ (i : ℕ). lines_from mark n i w) e)

pub returns : goal.returns
returns g t c =
    let all : c.loop-general.general ≡ c.args.generals = omega arith in
    c.loop-general.invariant
    ∙ (ap (λ (n : ℕ). string_bytes c.args.text.now ++ flat_map (λ j. lines_from (g.M.Marks.marking c.args.marks.now) c.args.generals (c.args.more - 1) (c.args.label.now ++ j ∷ [])) (others n c.args.label.now)) all
    ∙ ap (λ xs. string_bytes c.args.text.now ++ xs) (more_lines (g.M.Marks.marking c.args.marks.now) c.args.generals c.args.more (c.args.more - 1) c.args.label.now (let ne = c.if-more-eq0.false in omega arith)))
