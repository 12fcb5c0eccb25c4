use Rattle.trace.proofs.SignedSound.{proved_sound_signed_texts_are_runs}
use Rattle.trace.proofs.laws.sound_signed_texts_are_runs.Goals as goal

pub returns : goal.returns
returns c = proved_sound_signed_texts_are_runs
