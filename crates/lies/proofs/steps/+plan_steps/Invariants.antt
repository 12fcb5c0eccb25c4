use Rattle.lies.proofs.steps.+plan_steps.Given as goal

abbrev pub decreases-plan_steps : goal.decreases-plan_steps
decreases-plan_steps l = l.relays
