use Rattle.std.proofs.Common.{sym}
use Rattle.book.specs.Grammar.{checked, message_of}
use Rattle.book.proofs.WholeLemmas.{checked_parts, line_ok}
use Rattle.book.proofs.reader.read_table.Goals as goal

pub with-requires-clause-place : goal.with-requires-clause-place
with-requires-clause-place c =
    let said = message_of c.in-Some-line.next.now in
    let passed = line_ok c.loop-next.number (checked c.loop-next.table said) c.in_ok-message.message (sym c.in_ok-message.ensures) in
    (checked_parts c.loop-next.table said c.in_ok-message.message passed).1
