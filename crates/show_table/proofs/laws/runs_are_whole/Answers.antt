use Rattle.show_table.proofs.Rounds.{proved_runs_are_whole}
use Rattle.show_table.proofs.laws.runs_are_whole.Goals as goal

pub returns : goal.returns
returns c = proved_runs_are_whole
