use Rattle.html.proofs.EscapeLaws.{proved_escapes_are_read_back}
use Rattle.html.proofs.markup_laws.escapes_are_read_back.Goals as goal

pub returns : goal.returns
returns c = proved_escapes_are_read_back
