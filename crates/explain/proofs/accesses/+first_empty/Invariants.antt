use Rattle.explain.proofs.accesses.+first_empty.Given as goal

abbrev pub decreases-first_empty : goal.decreases-first_empty
decreases-first_empty l = l.size
