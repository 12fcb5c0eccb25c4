use Rattle.label.proofs.ranking.+label_at.Given as goal

abbrev pub decreases-label_at : goal.decreases-label_at
decreases-label_at l = l.size
