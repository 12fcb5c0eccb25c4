use Rattle.show_tree.proofs.SvgLaws.{proved_pictures_are_elements}
use Rattle.show_tree.proofs.laws.pictures_are_elements.Goals as goal

pub returns : goal.returns
returns c = proved_pictures_are_elements
