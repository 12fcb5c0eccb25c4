use Rattle.object.proofs.entries.+behind_entry.Given as goal

abbrev pub decreases-behind_entry : goal.decreases-behind_entry
decreases-behind_entry l = l.count
