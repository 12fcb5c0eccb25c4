use Rattle.show_page.proofs.FoldLaws.{proved_folds_hide_nothing}
use Rattle.show_page.proofs.laws.folds_hide_nothing.Goals as goal

pub returns : goal.returns
returns c = proved_folds_hide_nothing
