use Rattle.reaching.proofs.cells.+pointer_over.Given as goal

abbrev pub decreases-pointer_over : goal.decreases-pointer_over
decreases-pointer_over l = l.tries
