use Rattle.lies.proofs.steps.+sets.Given as goal

abbrev pub decreases-sets : goal.decreases-sets
decreases-sets l = l.generals
