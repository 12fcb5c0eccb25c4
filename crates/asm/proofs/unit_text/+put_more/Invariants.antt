use Rattle.std.proofs.Common.{length}
use Rattle.asm.proofs.unit_text.+put_more.Given as goal

abbrev pub decreases-put_more : goal.decreases-put_more
decreases-put_more l = length l.operands.now
