use Rattle.std.proofs.Common.{◌≡◌}
use Rattle.std.specs.List.{list_all}
use Rattle.text.specs.Stop.{space}
use Rattle.text.specs.Parts.{left, left_len, pieces}
use Rattle.trace.specs.Shapes.{is_place}
use Rattle.trace.proofs.shapes.are_places.Given as goal

abbrev pub invariant-loop-rest : goal.invariant-loop-rest
invariant-loop-rest l = list_all is_place (left space l.rest) ≡ list_all is_place (pieces space l.words)

abbrev pub decreases-loop-rest : goal.decreases-loop-rest
decreases-loop-rest l = left_len l.rest
