use Rattle.std.proofs.Common.{◌≡◌, ◌≤◌, ◌+◌, length}
use Rattle.text.specs.Parts.{lines_of}
use Rattle.book.specs.Grammar.{table_told, lines_told}
use Rattle.book.proofs.reader.read_table.Given as goal

abbrev pub invariant-loop-next : goal.invariant-loop-next
invariant-loop-next l = record { whole : lines_told l.table l.number (lines_of l.rest) ≡ table_told l.text; room : l.number + length l.rest ≤ length l.text + 2 }

abbrev pub decreases-loop-next : goal.decreases-loop-next
decreases-loop-next l = length l.rest
