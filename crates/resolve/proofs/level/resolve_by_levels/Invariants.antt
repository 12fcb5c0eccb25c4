use Rattle.std.proofs.Common.{◌≡◌, ◌+◌, ◌-◌, length}
use Rattle.label.specs.Labels.{labels}
use Rattle.label.specs.Oral.{Messages}
use Rattle.tree.specs.LieutenantTree.{IsFilled}
use Rattle.resolve.specs.Upward.{decisions_at}
use Rattle.resolve.proofs.level.resolve_by_levels.Given as goal

abbrev pub invariant-loop-k : goal.invariant-loop-k
invariant-loop-k g l = record { long : length l.below.items ≡ length (labels l.tree.generals l.tree.commander l.tree.general (l.tree.bound + 1 - l.k)); decided : (M : Messages) → IsFilled l.tree M → l.below.items ≡ decisions_at (g.C.Combine.combined l.rule) l.tree M l.k (l.tree.bound + 1 - l.k) }
