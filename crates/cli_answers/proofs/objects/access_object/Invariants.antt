use Rattle.std.proofs.Common.{◌≡◌, drop, map}
use Rattle.text.specs.Parts.{pieces}
use Rattle.text.specs.Stop.{space}
use Rattle.board.specs.Wording as asking
use Rattle.cli_answers.specs.Shaped.{first_shaped}
use Rattle.cli_answers.specs.Shapes.{access_row}
use Rattle.cli_answers.proofs.objects.access_object.Given as goal

abbrev pub invariant-loop-wording : goal.invariant-loop-wording
invariant-loop-wording l =
    first_shaped l.held (map access_row (map asking.row_of (drop l.wording-index l.wordings))) (pieces space l.line)
    ≡ first_shaped l.held (map access_row (map asking.row_of l.wordings)) (pieces space l.line)
