use Rattle.show_diagram.proofs.SvgLaws.{proved_diagrams_are_elements}
use Rattle.show_diagram.proofs.laws.diagrams_are_elements.Goals as goal

pub returns : goal.returns
returns c = proved_diagrams_are_elements
