use Rattle.outbox.proofs.AlikeRows.{told_seen, told_long}
use Rattle.outbox.proofs.alike_row.UniformRow.told_at_once.Goals as goal

pub returns-clause-orders : goal.returns-clause-orders
returns-clause-orders c = told_seen c.self.inside.order c.self.inside.receivers c.args.self.now c.count.result c.self.view_is c.count.ensures.count

pub returns-clause-few : goal.returns-clause-few
returns-clause-few c = told_long c.self.inside.order c.count.result c.count.ensures.few
