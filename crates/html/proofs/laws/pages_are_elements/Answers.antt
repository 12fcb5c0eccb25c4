use Rattle.html.proofs.PageLaws.{proved_pages_are_elements}
use Rattle.html.proofs.laws.pages_are_elements.Goals as goal

pub returns : goal.returns
returns c = proved_pages_are_elements
