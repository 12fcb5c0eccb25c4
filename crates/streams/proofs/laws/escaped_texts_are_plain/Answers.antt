use Rattle.streams.proofs.EscapeLaws.{proved_escaped_texts_are_plain}
use Rattle.streams.proofs.laws.escaped_texts_are_plain.Goals as goal

pub returns : goal.returns
returns c = proved_escaped_texts_are_plain
