use Rattle.std.proofs.Common.{◌≡◌, take}
use Rattle.surveys.specs.Groups.{of_generals}
use Rattle.surveys.proofs.campaign_groups.of_generals.Given as goal

abbrev pub invariant-loop-finding : goal.invariant-loop-finding
invariant-loop-finding l = l.some.items ≡ of_generals l.generals (take l.finding-index l.findings)
