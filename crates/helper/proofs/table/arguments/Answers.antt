use Rattle.helper.proofs.Accepts.{calls_accept, calls_test}
use Rattle.helper.proofs.table.arguments.Goals as goal

pub returns-clause-tests : goal.returns-clause-tests
returns-clause-tests c = calls_test c.args.helper

pub returns-clause-accepts : goal.returns-clause-accepts
returns-clause-accepts c = calls_accept c.args.helper
