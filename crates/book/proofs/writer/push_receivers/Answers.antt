use Rattle.std.proofs.Common.{◌≡◌, ◌∙◌, ◌++◌, arith, sym, ap, ℕ, List}
use Rattle.std.specs.List.{flat_map}
use Rattle.std.specs.String.{string_bytes}
use Rattle.label.specs.Labels.{others}
use Rattle.book.specs.Explained.{dotted}
use Rattle.book.proofs.Gathering.{text_yes, text_no}
use Rattle.book.specs.Written.{line_of, lines_from}
use Rattle.book.proofs.writer.push_receivers.Goals as goal
use Rattle.book.proofs.writer.push_receivers.Goals.{then-not-has+in_ok-push_line, else-not-has}

pub loop-receiver-preserved : goal.loop-receiver-preserved
loop-receiver-preserved g c =
    let line : ℕ → List ℕ = λ p. line_of (dotted c.args.label.now) p (g.M.Marks.marking c.args.marks.now c.args.label.now p) in
    elim c.if-not-has.branch [
      | then-not-has+in_ok-push_line w ↦
          rw (w.text-is, w.in_ok-push_line.ensures, c.loop-receiver.invariant, w.mark.ensures, c.requires) (text_yes line c.args.label.now c.loop-receiver.receiver (string_bytes c.args.text.now) (sym c.has.ensures ∙ w.if-not-has.true))
      | else-not-has w ↦
          rw (w.text-is, c.loop-receiver.invariant) (text_no line c.args.label.now c.loop-receiver.receiver (string_bytes c.args.text.now) (sym c.has.ensures ∙ w.if-not-has.false))
    ]

pub returns : goal.returns
unfolding lines_from
returns g c =
    let all : c.loop-receiver.receiver ≡ c.args.generals = omega arith in
    c.loop-receiver.invariant
    ∙ ap (λ (n : ℕ). string_bytes c.args.text.now ++ flat_map (λ p. line_of (dotted c.args.label.now) p (g.M.Marks.marking c.args.marks.now c.args.label.now p)) (others n c.args.label.now)) all
