use Rattle.std.proofs.Common.{◌≡◌, ◌≤◌}
use Rattle.text.specs.Parts.{left, left_len, pieces}
use Rattle.campaign_schedules.specs.Accesses.{slash}
use Rattle.campaign_schedules.proofs.Listed.{fault_in}
use Rattle.campaign_schedules.proofs.access_list.fault_of.Given as goal

abbrev pub invariant-loop-rest : goal.invariant-loop-rest
invariant-loop-rest l = record {
  same : fault_in l.round (left slash l.rest) ≡ fault_in 1 (pieces slash l.text);
  room : l.round ≤ 6;
}

abbrev pub decreases-loop-rest : goal.decreases-loop-rest
decreases-loop-rest l = left_len l.rest
