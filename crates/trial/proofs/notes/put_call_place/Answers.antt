use Rattle.std.proofs.Common.{append_assoc}
use Rattle.std.proofs.lemmas.Result.{on_ok_weaker}
use Rattle.trial.specs.Notes.{call_place}
use Rattle.trial.proofs.notes.put_call_place.Goals as goal

pub returns : goal.returns
unfolding call_place
returns c = on_ok_weaker c.write.result (λ e. simp append_assoc e) c.write.ensures.bytes
