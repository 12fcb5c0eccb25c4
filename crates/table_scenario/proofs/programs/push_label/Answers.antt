use Rattle.std.proofs.Common.{◌<◌, ◌∙◌, arith, sym, ℕ, List}
use Rattle.std.specs.String.{string_bytes}
use Rattle.book.specs.Explained.{dotted}
use Rattle.book.specs.Table.{told}
use Rattle.book.proofs.Gathering.{text_yes, text_no}
use Rattle.table_scenario.specs.Programs.{message_text}
use Rattle.table_scenario.proofs.Placing.{placed}
use Rattle.table_scenario.proofs.programs.push_label.Goals as goal
use Rattle.table_scenario.proofs.programs.push_label.Goals.{then-not-has+in_ok-push_message, else-not-has}

pub told-order-requires : goal.told-order-requires
told-order-requires g c =
    let value = c.generals-receiver-end.ensures.value in
    let more = c.loop-receiver-test.true in
    let end = c.loop-receiver.auto.receiver-end in
    let within : c.loop-receiver.receiver < (g.H.Heard.seen c.args.table.now).generals = omega arith in
    placed (g.H.Heard.seen c.args.table.now) c.args.label.now c.loop-receiver.receiver c.requires.label c.requires.short within (sym c.has.ensures ∙ c.if-not-has.true)

pub loop-receiver-preserved : goal.loop-receiver-preserved
loop-receiver-preserved g c =
    let line : ℕ → List ℕ = λ p. message_text c.args.rank (dotted c.args.label.now) p (told (g.H.Heard.seen c.args.table.now).messages c.args.label.now p) in
    elim c.if-not-has.branch [
      | then-not-has+in_ok-push_message w ↦
          rw (w.text-is, w.in_ok-push_message.ensures, c.loop-receiver.invariant, w.told-order.ensures, w.as_str.ensures.value, c.in_ok-name.ensures)
          (text_yes line c.args.label.now c.loop-receiver.receiver (string_bytes c.args.text.now) (sym c.has.ensures ∙ w.if-not-has.true))
      | else-not-has w ↦
          rw (w.text-is, c.loop-receiver.invariant) (text_no line c.args.label.now c.loop-receiver.receiver (string_bytes c.args.text.now) (sym c.has.ensures ∙ w.if-not-has.false))
    ]
