-- In the first round a lieutenant relays nothing.
use Rattle.std.proofs.Common.{length, ap}
use Rattle.label.specs.Labels.{labels}
use Rattle.trial.proofs.setting.Setting.bench.Goals as goal

pub new-requires-2-clause-each : goal.new-requires-2-clause-each
unfolding labels
new-requires-2-clause-each c = ap length c.new.ensures.items
