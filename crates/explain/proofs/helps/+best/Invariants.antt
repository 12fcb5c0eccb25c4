use Rattle.std.proofs.Common.{length}
use Rattle.explain.proofs.helps.+best.Given as goal

abbrev pub decreases-best : goal.decreases-best
decreases-best l = length l.edits.now
