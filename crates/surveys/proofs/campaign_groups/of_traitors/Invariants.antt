use Rattle.std.proofs.Common.{◌≡◌, take}
use Rattle.surveys.specs.Groups.{of_traitors}
use Rattle.surveys.proofs.campaign_groups.of_traitors.Given as goal

abbrev pub invariant-loop-finding : goal.invariant-loop-finding
invariant-loop-finding l = l.some.items ≡ of_traitors l.traitors (take l.finding-index l.findings)
