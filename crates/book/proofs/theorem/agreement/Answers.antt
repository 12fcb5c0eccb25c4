use Rattle.book.proofs.Induction.{holds}
use Rattle.book.proofs.theorem.agreement.Goals as goal

pub returns : goal.returns
returns c = holds
