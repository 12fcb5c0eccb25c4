use Rattle.std.proofs.Common.{refl}
use Rattle.std.proofs.lemmas.Result.{IfErr-weaker, IfOk-weaker}
use Rattle.cli_tasks.specs.Serving.{Files, files}
use Rattle.cli_tasks.proofs.FilesLemmas.{prevented_later, second_named}
use Rattle.cli_tasks.proofs.FirstLemmas.{prevented_first}
use Rattle.cli_tasks.proofs.service.answered.Goals as goal

pub returns-in-Ok-clause-answer : goal.returns-in-Ok-clause-answer
returns-in-Ok-clause-answer g c =
    IfOk-weaker c.completed.result _ _
    (λ answer ends. (c.in_ok-bytes.bytes.items, c.in_ok-bytes.ensures.whole, (c.in-Ok.more, rw c.as_slice.ensures.value at c.in-Ok.ensures.answered, rw c.as_slice-in-Ok.ensures.value at ends)))
    c.completed.ensures.answer

pub returns-in-Ok-clause-fault : goal.returns-in-Ok-clause-fault
returns-in-Ok-clause-fault g c =
    let both : Files = files g.R.Source.bytes c.args.first c.args.second in
    IfErr-weaker c.completed.result _ _
    (λ fault why.
    prevented_later c.args.task.now both _ _ c.in_ok-bytes.bytes.items c.unwrap_or-file.result.now c.in-Ok.more fault c.in_ok-bytes.ensures.whole (rw c.as_slice.ensures.value at c.in-Ok.ensures.answered)
    (second_named c.args.task.now c.second.result c.unwrap_or-file.result _ c.second.ensures c.unwrap_or-file.ensures refl) why)
    c.completed.ensures.fault

pub returns-clause-fault : goal.returns-clause-fault
returns-clause-fault g c =
    let both : Files = files g.R.Source.bytes c.args.first c.args.second in
    prevented_first c.args.task.now both _ _ c.in_ok-bytes.bytes.items c.refused.result c.in_ok-bytes.ensures.whole
    (rw (c.as_slice-in-Err.ensures.value) at c.refused.ensures.stops)
