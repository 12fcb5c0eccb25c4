use Rattle.toml.specs.Parse.{parse_document}
use Rattle.scenario.specs.Reading.{ReadsAny}
use Rattle.cli_report.specs.Refused.{IsErrorOf}
use Rattle.cli_report.specs.declared.refusal.Taken.TheVariants.{Any}
use Rattle.cli_report.proofs.ErrorLemmas.{error_told}
use Rattle.cli_report.proofs.refusal.error_of_any.Goals as goal

pub returns : goal.returns
returns c =
    error_told (ReadsAny (parse_document c.args.text.now)) (IsErrorOf Any c.args.text.now) (λ x h. (x, h)) (λ e n h. (n, h)) c.read_any.result c.error_in.result c.read_any.ensures c.error_in.ensures
