use Rattle.campaign_schedules.proofs.Keeping.{kept_play}
use Rattle.campaign_schedules.proofs.laws.kept_schedules_play.Goals as goal

pub returns : goal.returns
returns c = kept_play c.args.scenario.now c.recall.ensures c.recall_short.ensures
