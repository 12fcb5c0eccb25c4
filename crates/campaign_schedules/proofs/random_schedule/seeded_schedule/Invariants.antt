use Rattle.rand_chacha.specs.ChaCha.{of_seed}
use Rattle.rand_core.specs.Pcg32Seed.{pcg32_seed}
use Rattle.campaign_schedules.proofs.Seeds.{IsOnLines}
use Rattle.campaign_schedules.proofs.random_schedule.seeded_schedule.Given as goal

abbrev pub invariant-loop-made : goal.invariant-loop-made
invariant-loop-made l = IsOnLines (of_seed (pcg32_seed 32 l.seed)) l.generator l.made l.lines.items
