use Rattle.show_tree.proofs.FoldLaws.{proved_folds_are_alike}
use Rattle.show_tree.proofs.laws.folds_are_alike.Goals as goal

pub returns : goal.returns
returns c = proved_folds_are_alike
