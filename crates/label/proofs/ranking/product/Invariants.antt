use Rattle.std.proofs.Common.{◌≡◌, length}
use Rattle.label.specs.Space.{labels_of}
use Rattle.label.proofs.ranking.product.Given as goal

abbrev pub invariant-loop-k : goal.invariant-loop-k
invariant-loop-k l = l.all ≡ length (labels_of l.space l.k)
