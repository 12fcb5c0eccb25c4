use Rattle.std.proofs.Common.{◌≡◌, map, take}
use Rattle.lies.proofs.selection.votes_for_first.Given as goal

abbrev pub invariant-loop-choice : goal.invariant-loop-choice
invariant-loop-choice l = l.votes.items ≡ map (λ choice. choice.vote.first) (take l.choice-index l.plan)
