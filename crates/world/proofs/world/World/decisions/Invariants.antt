use Rattle.std.proofs.Common.{◌≡◌, ◌∷◌, []}
use Rattle.round.specs.Letters.{messages}
use Rattle.round.specs.Told.{lieutenant_at}
use Rattle.world.specs.World.{each}
use Rattle.world.specs.Chronicle.{decision}
use Rattle.world.proofs.world.World.decisions.Given as goal

abbrev pub invariant-loop-tree : goal.invariant-loop-tree
invariant-loop-tree l = l.decisions.items ≡ each l.tree-index (λ i. decision l.self.scenario (messages l.self.closed) (lieutenant_at l.self.scenario.commander i) ∷ [])
