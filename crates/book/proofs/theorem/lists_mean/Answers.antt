use Rattle.book.proofs.MajorityLemmas.{proved_lists_mean}
use Rattle.book.proofs.theorem.lists_mean.Goals as goal

pub returns : goal.returns
returns c = proved_lists_mean
