use Rattle.book.proofs.FormLemmas.{proved_forms_are_read}
use Rattle.book.proofs.theorem.forms_are_read.Goals as goal

pub returns : goal.returns
returns c = proved_forms_are_read
