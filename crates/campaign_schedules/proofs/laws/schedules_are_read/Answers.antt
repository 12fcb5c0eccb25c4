use Rattle.campaign_schedules.proofs.Reading.{proved_schedules_are_read}
use Rattle.campaign_schedules.proofs.laws.schedules_are_read.Goals as goal

pub returns : goal.returns
returns c = proved_schedules_are_read
