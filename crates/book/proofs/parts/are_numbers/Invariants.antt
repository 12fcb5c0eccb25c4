use Rattle.std.proofs.Common.{◌≡◌}
use Rattle.std.specs.Prelude.{is_some}
use Rattle.book.specs.Grammar.{numbers_of}
use Rattle.text.specs.Stop.{dot}
use Rattle.text.specs.Parts.{left, left_len}
use Rattle.book.proofs.parts.are_numbers.Given as goal

abbrev pub invariant-loop-part : goal.invariant-loop-part
invariant-loop-part l = is_some (numbers_of (left dot l.part)) ≡ is_some (numbers_of (left dot l.rest))

abbrev pub decreases-loop-part : goal.decreases-loop-part
decreases-loop-part l = left_len l.part
