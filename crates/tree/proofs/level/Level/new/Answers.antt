use Rattle.std.proofs.Common.{refl, rules}
use Rattle.tree.proofs.Keeping.{nothing-kept, nothing-in}
use Rattle.tree.proofs.level.Level.new.Goals as goal

pub invariant_of-result : goal.invariant_of-result
invariant_of-result c = nothing-kept c.in_ok-told.told.items c.in_ok-orders.orders.items c.args.places c.args.places refl (search rules) (search rules)

pub returns : goal.returns
returns c = nothing-in c.in_ok-told.told.items c.in_ok-orders.orders.items c.args.places c.args.places refl (search rules) (search rules)
