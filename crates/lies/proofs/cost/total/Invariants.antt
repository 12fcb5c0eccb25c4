use Rattle.std.proofs.Common.{◌≡◌, ◌≤◌, ◌*◌, take}
use Rattle.lies.specs.Limits.{most_attacks}
use Rattle.lies.specs.Plans.{attacks}
use Rattle.lies.proofs.cost.total.Given as goal

abbrev pub invariant-loop-choice : goal.invariant-loop-choice
invariant-loop-choice l = record {
  value : l.sum ≡ attacks (take l.choice-index l.plan);
  few : l.sum ≤ l.choice-index * most_attacks l.relays;
}
