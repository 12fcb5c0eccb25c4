-- Only a receiver of the label has the order.
use Rattle.std.proofs.Common.{sym, ◌∙◌, true, false}
use Rattle.outbox.proofs.AlikeRows.{order_seen}
use Rattle.outbox.proofs.alike_row.UniformRow.order.Goals as goal

pub returns-then-has : goal.returns-then-has
returns-then-has c = order_seen c.self.inside.order c.self.inside.receivers c.args.self.now c.args.receiver true c.self.view_is (sym c.has.ensures.among ∙ c.if-has.true)

pub returns-else-has : goal.returns-else-has
returns-else-has c = order_seen c.self.inside.order c.self.inside.receivers c.args.self.now c.args.receiver false c.self.view_is (sym c.has.ensures.among ∙ c.if-has.false)
