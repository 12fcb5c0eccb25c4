use Rattle.asm.proofs.FirstLemmas.{said_only, line_said, count_said, jump_said}
use Rattle.asm.proofs.laws.faults_are_first.Goals as goal

pub returns : goal.returns
returns c = record { only = said_only; line = line_said; count = count_said; jump = jump_said }
