use Rattle.semantics.proofs.EntriesLaws.{few_entries}
use Rattle.semantics.proofs.laws.entries_are_few.Goals as goal

pub returns : goal.returns
returns c = few_entries
