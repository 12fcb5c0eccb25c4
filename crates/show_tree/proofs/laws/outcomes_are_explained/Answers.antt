use Rattle.show_tree.proofs.FoldLaws.{explained}
use Rattle.show_tree.proofs.laws.outcomes_are_explained.Goals as goal

pub returns : goal.returns
returns c = explained
