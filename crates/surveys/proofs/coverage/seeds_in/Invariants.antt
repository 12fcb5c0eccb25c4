use Rattle.std.proofs.Common.{◌≡◌, take}
use Rattle.surveys.specs.Covering.{seeds_in}
use Rattle.surveys.proofs.coverage.seeds_in.Given as goal

abbrev pub invariant-loop-finding : goal.invariant-loop-finding
invariant-loop-finding l = l.seeds.items ≡ seeds_in (take l.finding-index l.findings)
