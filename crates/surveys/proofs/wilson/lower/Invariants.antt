use Rattle.std.proofs.Common.{◌≡◌}
use Rattle.surveys.specs.Wilson.{greatest, is_below}
use Rattle.surveys.proofs.wilson.lower.Given as goal

abbrev pub invariant-loop-share : goal.invariant-loop-share
invariant-loop-share l = l.found ≡ greatest (is_below l.campaigns l.failed) l.share
