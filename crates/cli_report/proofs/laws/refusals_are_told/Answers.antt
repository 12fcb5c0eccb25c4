use Rattle.cli_report.proofs.TellingLaws.{told}
use Rattle.cli_report.proofs.laws.refusals_are_told.Goals as goal

pub returns : goal.returns
returns c = told
