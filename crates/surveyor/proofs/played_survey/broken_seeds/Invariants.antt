use Rattle.std.proofs.Common.{◌≡◌, ◌++◌, drop}
use Rattle.surveyor.specs.Printed.{broken_seeds}
use Rattle.surveyor.proofs.played_survey.broken_seeds.Given as goal

abbrev pub invariant-loop-finding : goal.invariant-loop-finding
invariant-loop-finding l = l.seeds.items ++ broken_seeds (drop l.finding-index l.found) ≡ broken_seeds l.found
