use Rattle.std.proofs.Common.{◌≡◌, ◌∷◌}
use Rattle.text.specs.Stop.{comma}
use Rattle.text.specs.Parts.{left, left_len, pieces}
use Rattle.cli_report.specs.Assembly.{last_of}
use Rattle.cli_report.proofs.assembly.last_piece.Given as goal

abbrev pub invariant-loop-rest : goal.invariant-loop-rest
invariant-loop-rest l = last_of (l.last ∷ left comma l.rest) ≡ last_of (pieces comma l.fn.operands)

abbrev pub decreases-loop-rest : goal.decreases-loop-rest
decreases-loop-rest l = left_len l.rest
