use Rattle.verify.proofs.JudgedSound.{judged_sound}
use Rattle.verify.proofs.laws.accepted_is_sound.Goals as goal

pub returns : goal.returns
returns c = judged_sound
