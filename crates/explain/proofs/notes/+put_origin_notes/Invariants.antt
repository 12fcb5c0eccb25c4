use Rattle.explain.proofs.notes.+put_origin_notes.Given as goal

abbrev pub decreases-put_origin_notes : goal.decreases-put_origin_notes
decreases-put_origin_notes l = l.most
