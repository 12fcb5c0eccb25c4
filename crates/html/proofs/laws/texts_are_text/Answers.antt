use Rattle.html.proofs.EncodedLaws.{shown_text}
use Rattle.html.proofs.laws.texts_are_text.Goals as goal

pub returns : goal.returns
returns c = shown_text
