use Rattle.std.proofs.Common.{◌≡◌, ◌≤◌, ◌<◌, take}
use Rattle.bounds.specs.Stories.{crossings}
use Rattle.bounds.proofs.group.crossings.Given as goal

abbrev pub invariant-loop-i : goal.invariant-loop-i
invariant-loop-i l = record { value : l.count ≡ crossings l.commander (take l.i l.generals); few : l.count < l.i; begun : 1 ≤ l.i; short : l.i ≤ 13 }
