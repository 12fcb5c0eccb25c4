use Rattle.std.proofs.Common.{◌≡◌}
use Rattle.text.specs.Stop.{space}
use Rattle.text.specs.Parts.{left, left_len, pieces}
use Rattle.trace.specs.Shapes.{behind}
use Rattle.trace.proofs.shapes.behind.Given as goal

abbrev pub invariant-loop-kinds : goal.invariant-loop-kinds
invariant-loop-kinds l = behind (left space l.kinds) (left space l.words) ≡ behind (pieces space l.shape) (pieces space l.line)

abbrev pub decreases-loop-kinds : goal.decreases-loop-kinds
decreases-loop-kinds l = left_len l.kinds
