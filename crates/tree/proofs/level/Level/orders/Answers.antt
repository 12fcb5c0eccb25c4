use Rattle.std.proofs.Common.{map, ap, ◌∙◌}
use Rattle.label.specs.Oral.{order_of}
use Rattle.tree.proofs.Keeping.{orders-kept}
use Rattle.tree.proofs.level.Level.orders.Goals as goal

pub returns : goal.returns
returns c = c.as_slice.ensures.value ∙ (orders-kept c.self.inside.told.items c.self.inside.orders.items c.self.invariant ∙ ap (map order_of) c.self.view_is)
