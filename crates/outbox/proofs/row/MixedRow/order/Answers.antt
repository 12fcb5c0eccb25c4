-- The order is stored by the receiver's number.
use Rattle.std.proofs.Common.{ap, ◌∙◌}
use Rattle.outbox.specs.Rows.{order_in}
use Rattle.outbox.proofs.Keeping.{order_kept}
use Rattle.outbox.proofs.row.MixedRow.order.Goals as goal

pub returns : goal.returns
returns c = c.at.ensures ∙ (order_kept c.self.inside.orders c.self.inside.receivers c.args.receiver c.self.invariant ∙ ap (order_in c.args.receiver) c.self.view_is)
