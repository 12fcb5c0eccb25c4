use Rattle.std.proofs.Common.{◌≡◌, take, Some, ◌∷◌}
use Rattle.std.specs.Prelude.{slice_get}
use Rattle.label.specs.Space.{labels_of}
use Rattle.label.specs.Mask.{IsFree}
use Rattle.label.proofs.ranking.rank_of.Given as goal

abbrev pub invariant-loop-i : goal.invariant-loop-i
invariant-loop-i l = record { stands : slice_get (labels_of l.space l.i) l.rank ≡ Some (take l.i l.generals); free : IsFree l.free (l.space.general ∷ take l.i l.generals) }
