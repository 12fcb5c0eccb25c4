use Rattle.std.proofs.Common.{arith, refl}
use Rattle.surveyor.proofs.MeantLemmas.{no_within, other_within}
use Rattle.surveyor.proofs.task_words.plays.within.Goals as goal
use Rattle.surveyor.proofs.task_words.plays.within.Goals.{in_default-via-in-Some+then-least-span+else-span-most, in_default-via-in-Some+else-least-span, in_default-via-in_default}

pub returns-in_default-clause-refused : goal.returns-in_default-clause-refused
returns-in_default-clause-refused c =
    elim c.in_default.branch [
      | in_default-via-in-Some+then-least-span+else-span-most w ↦ (refl, other_within c.args.least c.args.most c.args.word.now w.in-Some.span w.in-Some.ensures.told (λ from up_to. (let no = w.if-span-most.false in omega arith)))
      | in_default-via-in-Some+else-least-span w ↦ (refl, other_within c.args.least c.args.most c.args.word.now w.in-Some.span w.in-Some.ensures.told (λ from up_to. (let no = w.if-least-span.false in omega arith)))
      | in_default-via-in_default w ↦ (refl, no_within c.args.least c.args.most c.args.word.now c.requires w.in_default.ensures.refused)
    ]
