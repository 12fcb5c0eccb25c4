use Rattle.std.proofs.Common.{◌≡◌, ◌≤◌, length, take}
use Rattle.lies.specs.Plans.{without}
use Rattle.lies.proofs.generals.without.Given as goal

abbrev pub invariant-loop-other : goal.invariant-loop-other
invariant-loop-other l = record {
  items : l.rest.items ≡ without (take l.other-index l.generals) l.general;
  short : length l.rest.items ≤ l.other-index;
}
