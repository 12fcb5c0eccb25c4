-- The help message with a similar name.
use Rattle.cli_report.proofs.report.HelpDisplay.fmt.Goals as goal

pub returns-in-Near-clause-writes : goal.returns-in-Near-clause-writes
returns-in-Near-clause-writes g c = λ plain ok. rw c.in-Near.is (c.write.ensures.writes plain ok)
