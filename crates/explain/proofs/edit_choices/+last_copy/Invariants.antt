use Rattle.explain.proofs.edit_choices.+last_copy.Given as goal

abbrev pub decreases-last_copy : goal.decreases-last_copy
decreases-last_copy l = l.unit
