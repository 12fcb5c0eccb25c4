use Rattle.toml.specs.Parse.{parse_document}
use Rattle.scenario.specs.Reading.{Reads}
use Rattle.cli_report.specs.Refused.{IsErrorOf}
use Rattle.cli_report.specs.declared.refusal.Taken.TheVariants.{Oral}
use Rattle.cli_report.proofs.ErrorLemmas.{error_told}
use Rattle.cli_report.proofs.refusal.error_of_oral.Goals as goal

pub returns : goal.returns
returns c =
    error_told (Reads (parse_document c.args.text.now)) (IsErrorOf Oral c.args.text.now) (λ x h. (x, h)) (λ e n h. (n, h)) c.read.result c.error_in.result c.read.ensures c.error_in.ensures
