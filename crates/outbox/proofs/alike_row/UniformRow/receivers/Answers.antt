use Rattle.std.proofs.Common.{◌∙◌}
use Rattle.outbox.proofs.AlikeRows.{names_seen}
use Rattle.outbox.proofs.alike_row.UniformRow.receivers.Goals as goal

pub returns : goal.returns
returns c = c.list.ensures ∙ names_seen c.self.inside.order c.self.inside.receivers c.args.self.now c.self.view_is
