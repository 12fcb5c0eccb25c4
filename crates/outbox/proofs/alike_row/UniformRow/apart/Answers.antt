-- The mixed row has the uniform row's order for all receivers, or no order.
use Rattle.std.proofs.Common.{ap, ◌∙◌}
use Rattle.outbox.specs.Rows.{empty_row}
use Rattle.outbox.proofs.AlikeRows.{apart_none, apart_some}
use Rattle.outbox.proofs.alike_row.UniformRow.apart.Goals as goal

pub returns-in-Some : goal.returns-in-Some
returns-in-Some c = apart_some c.self.inside.order c.in-Some.order c.self.inside.receivers c.new-row.result c.put_all.new.self c.args.self.now c.in-Some.is (c.new-row.ensures ∙ ap empty_row c.copy.ensures) c.put_all.ensures c.self.view_is

pub returns-in-None : goal.returns-in-None
returns-in-None c = apart_none c.self.inside.order c.self.inside.receivers c.new-row.result c.args.self.now c.in-None.is (c.new-row.ensures ∙ ap empty_row c.copy.ensures) c.self.view_is
