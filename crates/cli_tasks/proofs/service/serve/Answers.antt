use Rattle.cli_tasks.proofs.FaultLemmas.{fault_ends}
use Rattle.cli_tasks.proofs.service.serve.Goals as goal

pub returns-in-Err-clause-at_fault : goal.returns-in-Err-clause-at_fault
returns-in-Err-clause-at_fault g c one =
    fault_ends _ _ _ _ _ _ _ _ _ _ c.in-Err.failure c.in-Err.ensures.fault c.in-Err.ensures.unprinted c.ended.ensures.told
    (let e = c.ended.ensures.status in cc)
