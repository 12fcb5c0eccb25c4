use Rattle.round.proofs.Answered.{proved_runs_follow_answers}
use Rattle.round.proofs.laws.runs_follow_answers.Goals as goal

pub returns : goal.returns
returns c = proved_runs_follow_answers
