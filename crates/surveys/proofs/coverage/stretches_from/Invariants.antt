use Rattle.std.proofs.Common.{◌≡◌, ◌<◌, ◌^◌, ◌++◌, drop}
use Rattle.surveys.specs.Covering.{stretches_from}
use Rattle.surveys.proofs.coverage.stretches_from.Given as goal

abbrev pub invariant-loop-seed : goal.invariant-loop-seed
invariant-loop-seed l =
    (l.found.items ++ stretches_from l.open.first l.open.last (drop l.seed-index l.seeds) ≡ stretches_from l.fn.begun.first l.fn.begun.last l.seeds) × (l.open.last < 2 ^ 64)
