use Rattle.object.proofs.entries.+behind_formats.Given as goal

abbrev pub decreases-behind_formats : goal.decreases-behind_formats
decreases-behind_formats l = l.count
