use Rattle.machine.specs.Advance.{IsOfRun}
use Rattle.bench.proofs.work.served.Given as goal

abbrev pub invariant-loop : goal.invariant-loop
invariant-loop l = IsOfRun l.verified l.context l.activation
