use Rattle.std.proofs.Common.{◌≡◌, drop, map}
use Rattle.text.specs.Parts.{pieces}
use Rattle.text.specs.Stop.{space}
use Rattle.cli_answers.specs.Shaped.{first_shaped}
use Rattle.cli_answers.specs.Shapes.{row_of}
use Rattle.cli_answers.proofs.shaped.first_shaped.Given as goal

abbrev pub invariant-loop-shape : goal.invariant-loop-shape
invariant-loop-shape l = first_shaped l.held (map row_of (drop l.shape-index l.shapes)) (pieces space l.line) ≡ first_shaped l.held (map row_of l.shapes) (pieces space l.line)
