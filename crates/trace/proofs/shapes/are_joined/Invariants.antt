use Rattle.std.proofs.Common.{◌≡◌}
use Rattle.std.specs.List.{list_all}
use Rattle.text.specs.Stop.{dot}
use Rattle.text.specs.Parts.{left, left_len, pieces}
use Rattle.trace.specs.Shapes.{is_number}
use Rattle.trace.proofs.shapes.are_joined.Given as goal

abbrev pub invariant-loop-rest : goal.invariant-loop-rest
invariant-loop-rest l = list_all is_number (left dot l.rest) ≡ list_all is_number (pieces dot l.word)

abbrev pub decreases-loop-rest : goal.decreases-loop-rest
decreases-loop-rest l = left_len l.rest
