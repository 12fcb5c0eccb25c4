use Rattle.std.specs.Prelude.{option_map}
use Rattle.std.proofs.lemmas.Result.{IfOk-weaker}
use Rattle.cli_report.specs.Report.{mark_view}
use Rattle.cli_report.proofs.file_errors.own_unit_told.Goals as goal

pub returns : goal.returns
returns c = IfOk-weaker c.key_told.result _ _ (λ told is. (option_map mark_view c.in_ok-mark.mark, c.in_ok-mark.ensures, is)) c.key_told.ensures
