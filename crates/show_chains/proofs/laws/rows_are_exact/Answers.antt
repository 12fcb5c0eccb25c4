use Rattle.show_chains.proofs.RowLaws.{proved_rows_are_exact}
use Rattle.show_chains.proofs.laws.rows_are_exact.Goals as goal

pub returns : goal.returns
returns c = proved_rows_are_exact
