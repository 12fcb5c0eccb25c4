use Rattle.helper.proofs.Answered.{calls_return}
use Rattle.helper.proofs.table.result.Goals as goal

pub returns-clause-holds : goal.returns-clause-holds
returns-clause-holds c = calls_return c.args.helper
