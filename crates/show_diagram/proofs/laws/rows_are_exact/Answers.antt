use Rattle.show_diagram.proofs.ExactLaws.{proved_rows_are_exact}
use Rattle.show_diagram.proofs.laws.rows_are_exact.Goals as goal

pub returns : goal.returns
returns c = proved_rows_are_exact
