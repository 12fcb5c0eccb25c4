use Rattle.show_tree.proofs.facts.+below.Given as goal

abbrev pub decreases-below : goal.decreases-below
decreases-below l = l.relays
