use Rattle.cli_report.specs.Scenarios.{top_key_told}
use Rattle.cli_report.proofs.scenarios.unknown_at_top.Goals as goal

pub returns : goal.returns
unfolding top_key_told
returns c = rw (c.find_line-line.ensures, c.in_ok-known.ensures) at c.key_report.ensures
