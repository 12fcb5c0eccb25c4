use Rattle.std.proofs.Common.{◌≡◌, ◌<◌, ◌≤◌, ◌+◌, length, arith}
use Rattle.tree.proofs.Levels.{levels-there, row-orders, row-order-value, row-orders-long}
use Rattle.tree.proofs.tree.Tree.level.Goals as goal

pub index-requires : goal.index-requires
index-requires c =
    let there : length c.self.inside.levels.items ≡ c.self.inside.bound + 1 = levels-there c.self.invariant in
    let short : c.args.size ≤ c.self.inside.bound + 1 = rw (← c.self.view_is) at c.requires.short in
    let some : 0 < c.args.size = c.requires.some in
    omega arith

pub returns-clause-value : goal.returns-clause-value
returns-clause-value c = rw (← c.self.view_is) (row-order-value c.self.inside.space c.self.inside.bound c.self.inside.levels.items c.args.size c.index.result.now c.orders.result.now c.self.invariant c.requires.some (rw (← c.self.view_is) at c.requires.short) c.index.ensures c.orders.ensures)

pub returns-clause-told : goal.returns-clause-told
returns-clause-told c = rw (← c.self.view_is) (λ M f. row-orders c.self.inside.space c.self.inside.bound c.self.inside.levels.items M c.args.size c.index.result.now c.orders.result.now c.self.invariant f c.requires.some (rw (← c.self.view_is) at c.requires.short) c.index.ensures c.orders.ensures)

pub returns-clause-long : goal.returns-clause-long
returns-clause-long c = rw (← c.self.view_is) (row-orders-long c.self.inside.space c.self.inside.bound c.self.inside.levels.items c.args.size c.index.result.now c.orders.result.now c.self.invariant c.requires.some (rw (← c.self.view_is) at c.requires.short) c.index.ensures c.orders.ensures)
