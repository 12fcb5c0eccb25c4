use Rattle.std.proofs.Common.{◌≡◌, take, None}
use Rattle.std.specs.Prelude.{find}
use Rattle.book.specs.Table.{is_about}
use Rattle.book.proofs.plain_recursion.taken.Given as goal

-- No message so far is about the label and the receiver.
abbrev pub invariant-loop-message : goal.invariant-loop-message
invariant-loop-message l = find (is_about l.label l.receiver) (take l.message-index l.messages) ≡ None
