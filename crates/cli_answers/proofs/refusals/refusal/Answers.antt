use Rattle.cli_answers.proofs.CleanLemmas.{refusal_clean}
use Rattle.cli_answers.proofs.refusals.refusal.Goals as goal

pub push_object-requires : goal.push_object-requires
push_object-requires c = rw c.in_ok-object.ensures (refusal_clean c.args.text.now)
