use Rattle.std.proofs.Common.{ℕ, ◌≡◌, ◌<◌, Bool}
use Rattle.std.specs.Prelude.{IfSome, count_by, filter}
use Rattle.label.specs.Labels.{generals}
use Rattle.lies.specs.Asked.{IsAsked}
use Rattle.lies.specs.Attempts.{NoneCheaperAmong}
use Rattle.lies.specs.Commanders.{IsFoundUnder, success_under}
use Rattle.lies.proofs.commanders.cheapest_asked.Given as goal

abbrev pub invariant-loop-commander : goal.invariant-loop-commander
invariant-loop-commander g l = record {
  found : IfSome l.best (IsFoundUnder (g.C.Combine.combined l.rule) l.generals l.bound l.given l.count);
  least : (c : ℕ) (traitor : ℕ → Bool) → c < l.commander → IsAsked l.generals l.given c → count_by traitor (generals l.generals) ≡ l.count → NoneCheaperAmong (g.C.Combine.combined l.rule) l.generals l.bound c (success_under l.best) (filter traitor (generals l.generals));
}
