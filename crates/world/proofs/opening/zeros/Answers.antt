-- The context has 4,096 zeros.
use Rattle.std.proofs.Common.{◌-◌, ◌++◌, ◌∙◌, take}
use Rattle.std.specs.Prelude.{replicate}
use Rattle.world.specs.Closing.{zeros}
use Rattle.world.proofs.opening.zeros.Goals as goal

pub returns-clause-same : goal.returns-clause-same
unfolding zeros
returns-clause-same c = c.in_ok-resize.ensures.items ∙ (λ i. take 4096 (c.in_ok-bytes.ensures.items i) ++ replicate (4096 - c.in_ok-bytes.ensures.len i) 0)
