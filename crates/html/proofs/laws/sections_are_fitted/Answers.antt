use Rattle.html.proofs.SectionLaws.{proved_sections_are_fitted}
use Rattle.html.proofs.laws.sections_are_fitted.Goals as goal

pub returns : goal.returns
returns c = proved_sections_are_fitted
