use Rattle.show_diagram.proofs.layout.+top_of.Given as goal

abbrev pub decreases-top_of : goal.decreases-top_of
decreases-top_of l = l.rounds
