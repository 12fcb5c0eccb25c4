use Rattle.semantics.proofs.SoundExample.{some_are}
use Rattle.semantics.proofs.laws.some_are_plain_and_sound.Goals as goal

pub returns : goal.returns
returns c = some_are
