use Rattle.lies.proofs.places.+places.Given as goal

abbrev pub decreases-places : goal.decreases-places
decreases-places l = l.relays
