use Rattle.cli_tasks.proofs.ScheduleLemmas.{front_refused, front_told}
use Rattle.cli_tasks.proofs.service.scheduled.Goals as goal

pub returns-in-Ok-clause-told : goal.returns-in-Ok-clause-told
returns-in-Ok-clause-told g c =
    front_told g.R.Source.bytes c.args.second c.in-Some.second c.in_ok-front.front.items c.in-Ok.schedule
    c.in-Some.is c.in_ok-front.ensures.front (rw c.as_slice.ensures.value at c.in-Ok.ensures.told)

pub returns-clause-fault : goal.returns-clause-fault
returns-clause-fault g c =
    front_refused g.R.Source.bytes _ c.args.reported c.args.second c.in-Some.second c.in_ok-front.front.items c.args.file c.in-Err.refusal c.later.result
    c.in-Some.is c.in_ok-front.ensures.front (rw c.as_slice.ensures.value at c.in-Err.ensures.refused) (rw c.as_slice-in-Err.ensures.value at c.later.ensures)
