use Rattle.book.proofs.WholeLemmas.{proved_told_tables_are_whole}
use Rattle.book.proofs.theorem.told_tables_are_whole.Goals as goal

pub returns : goal.returns
returns c = proved_told_tables_are_whole
