use Rattle.std.proofs.Common.{ℕ, ◌≡◌, ◌<◌, length}
use Rattle.std.specs.Prelude.{IfSome}
use Rattle.lies.specs.Attempts.{NoneCheaperAmong, members}
use Rattle.lies.specs.Search.{IsFoundAmong, success_of}
use Rattle.lies.proofs.search.cheapest_break.Given as goal

abbrev pub invariant-loop-set : goal.invariant-loop-set
invariant-loop-set g l = record {
  found : IfSome l.best (IsFoundAmong (g.C.Combine.combined l.rule) l.generals l.bound l.commander l.count);
  least : (set : ℕ) → set < l.set → length (members l.generals set) ≡ l.count → NoneCheaperAmong (g.C.Combine.combined l.rule) l.generals l.bound l.commander (success_of l.best) (members l.generals set);
}
