use Rattle.std.proofs.Common.{◌≡◌, ◌≤◌, length}
use Rattle.text.specs.Parts.{lines_of}
use Rattle.trace.specs.Schedules.{schedule_told, schedule_lines_told}
use Rattle.trace.proofs.schedule_reader.read_schedule.Given as goal

abbrev pub invariant-loop-next : goal.invariant-loop-next
invariant-loop-next l = record { whole : schedule_lines_told l.lines.items l.number (lines_of l.rest) ≡ schedule_told l.text; room : l.number ≤ 6 }

abbrev pub decreases-loop-next : goal.decreases-loop-next
decreases-loop-next l = length l.rest
