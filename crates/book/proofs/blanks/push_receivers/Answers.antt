use Rattle.std.proofs.Common.{◌≡◌, ◌∙◌, ◌++◌, arith, sym, ap, ℕ}
use Rattle.std.specs.List.{flat_map}
use Rattle.std.specs.String.{string_bytes}
use Rattle.label.specs.Labels.{others}
use Rattle.book.specs.Forms.{blank, place_line, place_lines}
use Rattle.book.proofs.Gathering.{text_yes, text_no}
use Rattle.book.proofs.blanks.push_receivers.Goals as goal
use Rattle.book.proofs.blanks.push_receivers.Goals.{then-not-has+in_ok-push_blank, else-not-has}

pub loop-receiver-preserved : goal.loop-receiver-preserved
loop-receiver-preserved c =
    elim c.if-not-has.branch [
      | then-not-has+in_ok-push_blank w ↦
          rw (w.text-is, w.in_ok-push_blank.ensures, c.loop-receiver.invariant) (text_yes (λ p. place_line (c.args.label.now) p (blank (c.args.label.now) p)) c.args.label.now c.loop-receiver.receiver (string_bytes c.args.text.now) (sym c.has.ensures ∙ w.if-not-has.true))
      | else-not-has w ↦
          rw (w.text-is, c.loop-receiver.invariant) (text_no (λ p. place_line (c.args.label.now) p (blank (c.args.label.now) p)) c.args.label.now c.loop-receiver.receiver (string_bytes c.args.text.now) (sym c.has.ensures ∙ w.if-not-has.false))
    ]

pub returns : goal.returns
unfolding place_lines
returns c =
    let all : c.loop-receiver.receiver ≡ c.args.generals = omega arith in
    c.loop-receiver.invariant ∙ ap (λ (n : ℕ). string_bytes c.args.text.now ++ flat_map (λ p. place_line (c.args.label.now) p (blank (c.args.label.now) p)) (others n c.args.label.now)) all
