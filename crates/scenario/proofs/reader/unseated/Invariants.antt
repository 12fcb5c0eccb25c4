use Rattle.std.proofs.Common.{◌≡◌, None, replicate}
use Rattle.scenario.proofs.reader.unseated.Given as goal

abbrev pub invariant-loop-general : goal.invariant-loop-general
invariant-loop-general l = l.seats.items ≡ replicate l._general None
