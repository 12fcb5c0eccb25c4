use Rattle.std.proofs.Common.{◌≡◌, take}
use Rattle.round.proofs.accesses.copied.Given as goal

abbrev pub invariant-loop-access : goal.invariant-loop-access
invariant-loop-access l = l.copy.items ≡ take l.access-index l.accesses
