use Rattle.std.proofs.Common.{◌≡◌, ◌++◌, drop}
use Rattle.surveys.specs.Covering.{gaps}
use Rattle.surveys.proofs.coverage.gaps.Given as goal

abbrev pub invariant-loop-seed : goal.invariant-loop-seed
invariant-loop-seed l = l.found.items ++ gaps l.next (drop l.seed-index l.seeds) l.last ≡ gaps l.fn.next l.seeds l.last
