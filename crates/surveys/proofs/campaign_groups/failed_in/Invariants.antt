use Rattle.std.proofs.Common.{◌≡◌, ◌≤◌, take}
use Rattle.surveys.specs.Groups.{failed_in}
use Rattle.surveys.proofs.campaign_groups.failed_in.Given as goal

abbrev pub invariant-loop-finding : goal.invariant-loop-finding
invariant-loop-finding l = (l.count ≡ failed_in (take l.finding-index l.findings)) × (l.count ≤ l.finding-index)
