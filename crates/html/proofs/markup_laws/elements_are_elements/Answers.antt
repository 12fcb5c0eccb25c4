use Rattle.html.proofs.TagLaws.{proved_elements_are_elements}
use Rattle.html.proofs.markup_laws.elements_are_elements.Goals as goal

pub returns : goal.returns
returns c = proved_elements_are_elements
