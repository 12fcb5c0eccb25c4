-- A line is made word by word.
use Rattle.std.proofs.Common.{◌∙◌, ◌++◌, ◌∷◌, [], ap, arith}
use Rattle.world.specs.declared.schedule.Repeat.{Repeat}
use Rattle.campaign_schedules.proofs.Seeds.{line_begins_with, line_ends, line_goes_on}
use Rattle.campaign_schedules.proofs.random_schedule.line.Goals as goal

pub loop-made-init : goal.loop-made-init
loop-made-init c = line_begins_with c.args.generator.now c.new-repeats.result.items c.new-repeats.ensures.items

pub loop-made-preserved : goal.loop-made-preserved
loop-made-preserved c =
    line_goes_on c.args.generator.now c.loop-made.generator c.next_word-word.new.self c.next_word-word.result c.loop-made.made c.loop-made.repeats.items c.push.new.self.items c.loop-made.invariant
    c.loop-made-test.true c.next_word-word.ensures (c.in_ok-push.ensures.items ∙ ap (λ (r : Repeat). c.loop-made.repeats.items ++ r ∷ []) c.entry_of.ensures)

pub returns-clause-entries : goal.returns-clause-entries
returns-clause-entries c = (line_ends c.args.generator.now c.loop-made.generator c.loop-made.made c.loop-made.repeats.items c.loop-made.invariant (omega arith)).0

pub returns-clause-after : goal.returns-clause-after
returns-clause-after c = (line_ends c.args.generator.now c.loop-made.generator c.loop-made.made c.loop-made.repeats.items c.loop-made.invariant (omega arith)).1
