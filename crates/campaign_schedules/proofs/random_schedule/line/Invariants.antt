use Rattle.campaign_schedules.proofs.Seeds.{IsOnLine}
use Rattle.campaign_schedules.proofs.random_schedule.line.Given as goal

abbrev pub invariant-loop-made : goal.invariant-loop-made
invariant-loop-made l = IsOnLine l.initial.generator l.generator l.made l.repeats.items
