use Rattle.std.proofs.Common.{◌≡◌, take, length}
use Rattle.std.specs.Prelude.{min, sum_by}
use Rattle.round.specs.Letters.{Letter}
use Rattle.threads.proofs.account.count_accesses.Given as goal

abbrev pub invariant-loop-i : goal.invariant-loop-i
invariant-loop-i l = l.count ≡ min (sum_by (λ (x : Letter). length x.transcript) (take l.i l.letters)) l.most
