use Rattle.std.proofs.Common.{ap, ◌∙◌}
use Rattle.outbox.specs.Rows.{all_put}
use Rattle.outbox.proofs.AlikeRows.{alike_put}
use Rattle.outbox.proofs.alike_row.UniformRow.put_all.Goals as goal

pub returns : goal.returns
returns c = alike_put c.self.inside.order c.args.order c.self.inside.receivers ∙ ap (all_put c.args.order) c.self.view_is
