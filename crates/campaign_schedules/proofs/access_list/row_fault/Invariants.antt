use Rattle.std.proofs.Common.{◌≡◌, ◌+◌, ◌≤◌, length}
use Rattle.text.specs.Parts.{left, left_len, pieces}
use Rattle.text.specs.Stop.{space}
use Rattle.campaign_schedules.specs.Accesses.{row_fault}
use Rattle.campaign_schedules.proofs.access_list.row_fault.Given as goal

abbrev pub invariant-loop-rest : goal.invariant-loop-rest
invariant-loop-rest l = record {
  same : row_fault l.round l.place (left space l.rest) ≡ row_fault l.round 1 (pieces space l.text);
  room : l.place + left_len l.rest ≤ length l.text + 2;
}

abbrev pub decreases-loop-rest : goal.decreases-loop-rest
decreases-loop-rest l = left_len l.rest
