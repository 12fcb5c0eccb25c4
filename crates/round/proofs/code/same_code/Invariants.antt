use Rattle.std.proofs.Common.{◌≡◌, take}
use Rattle.round.proofs.code.same_code.Given as goal

abbrev pub invariant-loop-i : goal.invariant-loop-i
invariant-loop-i l = take l.i l.insns ≡ take l.i l.others
