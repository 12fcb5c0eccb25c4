use Rattle.std.proofs.Common.{◌≡◌, take}
use Rattle.std.specs.Prelude.{map}
use Rattle.threads.proofs.ending.failures.Given as goal

abbrev pub invariant-loop-end : goal.invariant-loop-end
invariant-loop-end l = l.failures.items ≡ map (λ end. end.failure) (take l.end-index l.generals)
