use Rattle.lies.proofs.PlaceLemmas.{AreBounded, IsReached}
use Rattle.lies.proofs.places.most_places.Given as goal

abbrev pub invariant-loop-count : goal.invariant-loop-count
invariant-loop-count l = record {
  bounded : AreBounded l.generals l.bound l.count l.best;
  reached : IsReached l.generals l.bound l.most l.best;
}
