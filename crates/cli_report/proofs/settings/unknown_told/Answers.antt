use Rattle.cli_report.specs.Settings.{setting_unknown_told}
use Rattle.cli_report.proofs.settings.unknown_told.Goals as goal

pub returns : goal.returns
unfolding setting_unknown_told
returns c = rw (c.find_line-line.ensures, c.in_ok-known.ensures) at c.key_report.ensures
