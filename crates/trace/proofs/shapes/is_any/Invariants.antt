use Rattle.std.proofs.Common.{◌≡◌, drop, map}
use Rattle.std.specs.List.{list_any}
use Rattle.text.specs.Parts.{pieces}
use Rattle.text.specs.Stop.{space}
use Rattle.board.specs.Wording.{row_of}
use Rattle.trace.specs.Shapes.{is_worded}
use Rattle.trace.proofs.shapes.is_any.Given as goal

abbrev pub invariant-loop-wording : goal.invariant-loop-wording
invariant-loop-wording l =
    list_any (λ r. is_worded r (pieces space l.line)) (map row_of (drop l.wording-index l.wordings))
    ≡ list_any (λ r. is_worded r (pieces space l.line)) (map row_of l.wordings)
