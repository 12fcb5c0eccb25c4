use Rattle.trial.proofs.steps.+put_words.Given as goal

-- The number of words that remain.
abbrev pub decreases-put_words : goal.decreases-put_words
decreases-put_words l = l.count
