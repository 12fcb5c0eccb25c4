use Rattle.html.proofs.EscapeLaws.{proved_escapes_are_plain}
use Rattle.html.proofs.markup_laws.escapes_are_plain.Goals as goal

pub returns : goal.returns
returns c = proved_escapes_are_plain
