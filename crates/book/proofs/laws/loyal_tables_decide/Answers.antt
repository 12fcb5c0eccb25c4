use Rattle.book.proofs.Loyals.{proved_loyal_tables_decide}
use Rattle.book.proofs.laws.loyal_tables_decide.Goals as goal

pub returns : goal.returns
returns c = proved_loyal_tables_decide
