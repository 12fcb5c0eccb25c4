use Rattle.std.proofs.Common.{◌≡◌, drop}
use Rattle.surveys.specs.Sums.{least, lesser}
use Rattle.surveys.proofs.summation.least.Given as goal

abbrev pub invariant-loop-finding : goal.invariant-loop-finding
invariant-loop-finding l = lesser l.least (least l.outcome (drop l.finding-index l.findings)) ≡ least l.outcome l.findings
