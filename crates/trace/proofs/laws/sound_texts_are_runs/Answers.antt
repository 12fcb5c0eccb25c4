use Rattle.trace.proofs.Sound.{proved_sound_texts_are_runs}
use Rattle.trace.proofs.laws.sound_texts_are_runs.Goals as goal

pub returns : goal.returns
returns c = proved_sound_texts_are_runs
