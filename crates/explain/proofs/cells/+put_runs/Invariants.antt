use Rattle.explain.proofs.cells.+put_runs.Given as goal

abbrev pub decreases-put_runs : goal.decreases-put_runs
decreases-put_runs l = l.more
