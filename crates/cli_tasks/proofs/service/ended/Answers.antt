use Rattle.cli_tasks.proofs.FaultLemmas.{written}
use Rattle.cli_tasks.proofs.service.ended.Goals as goal

pub returns-clause-told : goal.returns-clause-told
returns-clause-told g c = written c.tell.result _ _ c.tell.ensures.told c.tell.ensures.failed
