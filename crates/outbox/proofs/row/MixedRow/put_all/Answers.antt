-- One order is put for all receivers.
use Rattle.std.proofs.Common.{ap, ◌∙◌}
use Rattle.outbox.specs.Rows.{all_put}
use Rattle.outbox.proofs.Throughout.{put_to_all, row_to_all}
use Rattle.outbox.proofs.row.MixedRow.put_all.Goals as goal

pub invariant_of-self : goal.invariant_of-self
invariant_of-self c = row_to_all c.self.inside.orders c.alike-self-inside.result c.self.inside.receivers c.mask.result c.args.order c.self.invariant c.alike-self-inside.ensures.long c.alike-self-inside.ensures.each c.mask.ensures

pub returns : goal.returns
returns c = put_to_all c.self.inside.orders c.alike-self-inside.result c.self.inside.receivers c.mask.result c.args.order c.self.invariant c.alike-self-inside.ensures.each c.mask.ensures ∙ ap (all_put c.args.order) c.self.view_is
