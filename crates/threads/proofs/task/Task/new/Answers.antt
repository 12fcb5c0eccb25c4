use Rattle.std.proofs.Common.{◌+◌, ◌∙◌, arith}
use Rattle.threads.proofs.Tasks.{duty_is, task_is}
use Rattle.threads.proofs.task.Task.new.Goals as goal

pub invariant_of-result : goal.invariant_of-result
invariant_of-result c =
    let told = c.requires.told in
    let rounds = told.1.rounds in
    let same = c.rounds.ensures in
    let wide = c.from-2.ensures in
    let is = task_is c.args.scenario.now told.0 c.args.general c.from.result (c.from-2.result + 1) c.in_ok-context.context.items c.recall.ensures c.requires.general
    (let left = c.requires.left in omega arith) c.from.ensures (omega arith) (c.in_ok-context.ensures.context told.0 told.1) in
    (is.0, is.1, is.2, tt)

pub returns-clause-duty : goal.returns-clause-duty
returns-clause-duty c before told =
    let rounds = told.rounds in
    let same = c.rounds.ensures in
    let wide = c.from-2.ensures in
    duty_is c.args.scenario.now before c.args.general c.from.result (c.from-2.result + 1) c.in_ok-context.context.items c.in_ok-program.program c.patience.result c.recall.ensures c.requires.general
    (let left = c.requires.left in omega arith) (c.in_ok-context.ensures.words before told) c.from.ensures (omega arith) (c.in_ok-context.ensures.context before told)
    (c.in_ok-program.ensures ∙ c.seat.ensures) c.patience.ensures
