use Rattle.std.proofs.Common.{◌≡◌, take}
use Rattle.lies.proofs.selection.copied.Given as goal

abbrev pub invariant-loop-choice : goal.invariant-loop-choice
invariant-loop-choice l = l.copy.items ≡ take l.choice-index l.plan
