use Rattle.std.proofs.Common.{◌≡◌, ◌∙◌, Some, length, sym, refl, add-one, arith}
use Rattle.std.specs.Prelude.{slice_get}
use Rattle.std.proofs.lemmas.Option.{slice_get_read}
use Rattle.book.proofs.Lookup.{first_taken, other_label, other_receiver, none_taken}
use Rattle.book.proofs.plain_recursion.taken.Goals as goal
use Rattle.book.proofs.plain_recursion.taken.Goals.{else-message-receiver-via-then-message-receiver+else-same, else-message-receiver-via-else-message-receiver}

pub returns-then-same : goal.returns-then-same
returns-then-same c =
    let at : slice_get c.args.messages.now c.loop-message.message-index ≡ Some c.message-item.result = slice_get_read c.args.messages.now (length c.args.messages.now) c.loop-message.message-index c.message-item.result refl c.loop-message-test.true c.message-item.is in
    first_taken c.args.messages.now c.args.label.now c.args.receiver c.loop-message.message-index c.message-item.result c.loop-message.invariant at c.if-message-receiver.true (sym c.same.ensures ∙ c.if-same.true)

pub loop-message-preserved : goal.loop-message-preserved
loop-message-preserved c =
    let at : slice_get c.args.messages.now c.loop-message.message-index ≡ Some c.message-item.result = slice_get_read c.args.messages.now (length c.args.messages.now) c.loop-message.message-index c.message-item.result refl c.loop-message-test.true c.message-item.is in
    rw add-one (elim c.else-message-receiver.branch [
      | else-message-receiver-via-then-message-receiver+else-same w ↦ other_label c.args.messages.now c.args.label.now c.args.receiver c.loop-message.message-index c.message-item.result c.loop-message.invariant at (sym w.same.ensures ∙ w.if-same.false)
      | else-message-receiver-via-else-message-receiver w ↦ other_receiver c.args.messages.now c.args.label.now c.args.receiver c.loop-message.message-index c.message-item.result c.loop-message.invariant at w.if-message-receiver.false
    ])

pub returns : goal.returns
returns c = none_taken c.args.messages.now c.args.label.now c.args.receiver c.loop-message.message-index (omega arith) c.loop-message.invariant
