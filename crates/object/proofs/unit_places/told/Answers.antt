use Rattle.object.proofs.TextLemmas.{told_plain}
use Rattle.object.proofs.unit_places.told.Goals as goal

pub returns-in-Some : goal.returns-in-Some
returns-in-Some c =
    rw (told_plain c.args.name.now c.args.line c.in-Some.name.now c.in-Some.ensures.0 c.in-Some.ensures.1) c.joined.ensures
