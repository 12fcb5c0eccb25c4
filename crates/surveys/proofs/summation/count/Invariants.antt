use Rattle.std.proofs.Common.{◌≡◌, ◌≤◌, take}
use Rattle.std.specs.Prelude.{count_by}
use Rattle.surveys.specs.Sums.{has}
use Rattle.surveys.proofs.summation.count.Given as goal

abbrev pub invariant-loop-finding : goal.invariant-loop-finding
invariant-loop-finding l = (l.count ≡ count_by (has l.outcome) (take l.finding-index l.findings)) × (l.count ≤ l.finding-index)
