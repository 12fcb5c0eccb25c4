-- A schedule is made line by line.
use Rattle.std.proofs.Common.{refl, arith}
use Rattle.rand_chacha.specs.ChaCha.{of_seed}
use Rattle.rand_core.specs.Pcg32Seed.{pcg32_seed}
use Rattle.campaign_schedules.proofs.Seeds.{lines_begin_with, lines_end, lines_go_on, seeded_by}
use Rattle.campaign_schedules.proofs.random_schedule.seeded_schedule.Goals as goal

pub loop-made-init : goal.loop-made-init
loop-made-init c = lines_begin_with (of_seed (pcg32_seed 32 c.args.seed)) c.seed_from_u64-generator.result c.new-lines.result.items c.seed_from_u64-generator.ensures c.new-lines.ensures.items

pub loop-made-preserved : goal.loop-made-preserved
loop-made-preserved c =
    lines_go_on (of_seed (pcg32_seed 32 c.args.seed)) c.loop-made.generator c.line.new.generator c.loop-made.made c.in_ok-line.line c.loop-made.lines.items c.push.new.self.items c.loop-made.invariant
    c.loop-made-test.true c.in_ok-line.ensures.entries c.in_ok-line.ensures.after c.in_ok-push.ensures.items

pub returns : goal.returns
returns c =
    seeded_by c.args.seed (of_seed (pcg32_seed 32 c.args.seed)) c.loop-made.lines.items refl
    (lines_end (of_seed (pcg32_seed 32 c.args.seed)) c.loop-made.generator c.loop-made.made c.loop-made.lines.items c.loop-made.invariant (omega arith))
