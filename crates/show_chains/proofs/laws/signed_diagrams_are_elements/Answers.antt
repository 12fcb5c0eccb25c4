use Rattle.show_chains.proofs.PictureLaws.{proved_signed_diagrams_are_elements}
use Rattle.show_chains.proofs.laws.signed_diagrams_are_elements.Goals as goal

pub returns : goal.returns
returns c = proved_signed_diagrams_are_elements
