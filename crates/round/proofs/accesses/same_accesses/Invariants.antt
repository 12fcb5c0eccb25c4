use Rattle.std.proofs.Common.{◌≡◌, take}
use Rattle.round.proofs.accesses.same_accesses.Given as goal

abbrev pub invariant-loop-i : goal.invariant-loop-i
invariant-loop-i l = take l.i l.accesses ≡ take l.i l.others
