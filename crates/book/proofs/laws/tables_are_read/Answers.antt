use Rattle.book.proofs.Reread.{proved_tables_are_read}
use Rattle.book.proofs.laws.tables_are_read.Goals as goal

pub returns : goal.returns
returns c = proved_tables_are_read
