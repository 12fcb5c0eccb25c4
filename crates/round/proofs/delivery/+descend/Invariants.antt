use Rattle.std.proofs.Common.{◌≡◌, ◌-◌, ℕ, List, length}
use Rattle.label.specs.Labels.{others}
use Rattle.round.specs.Fronts.{IsFront}
use Rattle.round.specs.Delivery.{AreEach}
use Rattle.round.proofs.Together.{IsToldUpTo}
use Rattle.round.proofs.delivery.+descend.Given as goal

abbrev pub invariant-loop-general : goal.invariant-loop-general
invariant-loop-general l = record {
  told : AreEach (IsToldUpTo l.letters l.size l.front l.general) l.fn.trees l.trees;
  below : (c : ℕ) (w : List ℕ) → IsFront l.generals c w l.front → l.below ≡ length (others l.general w);
}

abbrev pub decreases-descend : goal.decreases-descend
decreases-descend l = l.size - l.front.now.size
