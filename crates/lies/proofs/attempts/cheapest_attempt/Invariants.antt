use Rattle.std.proofs.Common.{take}
use Rattle.std.specs.Prelude.{IfSome}
use Rattle.lies.specs.Attempts.{NoneCheaper, Succeeds}
use Rattle.lies.proofs.attempts.cheapest_attempt.Given as goal

abbrev pub invariant-loop-attempt : goal.invariant-loop-attempt
invariant-loop-attempt g l = record {
  success : IfSome l.best (Succeeds (g.C.Combine.combined l.rule) l.generals l.bound l.commander l.traitors);
  least : NoneCheaper (g.C.Combine.combined l.rule) l.generals l.bound l.commander l.traitors (take l.attempt-index l.attempt-items) l.best;
}
