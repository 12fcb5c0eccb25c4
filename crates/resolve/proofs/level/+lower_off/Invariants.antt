use Rattle.resolve.proofs.level.+lower_off.Given as goal

abbrev pub decreases-lower_off : goal.decreases-lower_off
decreases-lower_off l = l.size
