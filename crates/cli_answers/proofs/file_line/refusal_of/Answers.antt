use Rattle.cli_answers.proofs.CleanLemmas.{refusal_clean}
use Rattle.cli_answers.proofs.file_line.refusal_of.Goals as goal

pub named-requires : goal.named-requires
named-requires c = rw c.in_ok-object.ensures (refusal_clean c.args.text.now)
