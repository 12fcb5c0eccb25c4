use Rattle.explain.proofs.origins.+last_set.Given as goal

abbrev pub decreases-last_set : goal.decreases-last_set
decreases-last_set l = l.unit
