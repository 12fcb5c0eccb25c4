use Rattle.std.proofs.Common.{◌≡◌, take}
use Rattle.surveys.specs.Groups.{of_bound}
use Rattle.surveys.proofs.campaign_groups.of_bound.Given as goal

abbrev pub invariant-loop-finding : goal.invariant-loop-finding
invariant-loop-finding l = l.some.items ≡ of_bound l.bound (take l.finding-index l.findings)
