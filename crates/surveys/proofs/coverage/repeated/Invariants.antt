use Rattle.std.proofs.Common.{◌≡◌, ◌++◌, ◌-◌, drop}
use Rattle.surveys.specs.Covering.{repeated}
use Rattle.surveys.proofs.coverage.repeated.Given as goal

abbrev pub invariant-loop-place : goal.invariant-loop-place
invariant-loop-place l = l.found.items ++ repeated (drop (l.place - 1) l.seeds) ≡ repeated l.seeds
