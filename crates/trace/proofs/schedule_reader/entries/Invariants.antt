use Rattle.std.proofs.Common.{◌≡◌}
use Rattle.text.specs.Stop.{space}
use Rattle.text.specs.Parts.{left, left_len}
use Rattle.trace.specs.Schedules.{entries_told, line_told}
use Rattle.trace.proofs.schedule_reader.entries.Given as goal

abbrev pub invariant-loop-rest : goal.invariant-loop-rest
invariant-loop-rest l = entries_told l.repeats.items (left space l.rest) ≡ line_told l.line

abbrev pub decreases-loop-rest : goal.decreases-loop-rest
decreases-loop-rest l = left_len l.rest
