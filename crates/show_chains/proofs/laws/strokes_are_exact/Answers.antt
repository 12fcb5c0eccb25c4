use Rattle.show_chains.proofs.RowLaws.{proved_strokes_are_exact}
use Rattle.show_chains.proofs.laws.strokes_are_exact.Goals as goal

pub returns : goal.returns
returns c = proved_strokes_are_exact
