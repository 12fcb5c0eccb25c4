use Rattle.cli_report.specs.Scenarios.{entry_key_told}
use Rattle.cli_report.proofs.scenarios.unknown_in_table.Goals as goal

pub returns : goal.returns
unfolding entry_key_told
returns c = rw (c.entry_line-line.ensures, c.entry_sentence-sentence.ensures, c.other_than-other.ensures, c.in_ok-known.ensures) at c.key_report.ensures
