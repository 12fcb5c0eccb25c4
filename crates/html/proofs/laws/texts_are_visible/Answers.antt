use Rattle.html.proofs.VisibleLaws.{proved_texts_are_visible}
use Rattle.html.proofs.laws.texts_are_visible.Goals as goal

pub returns : goal.returns
returns c = proved_texts_are_visible
