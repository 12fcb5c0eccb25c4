use Rattle.std.proofs.Common.{◌<◌, length, arith}
use Rattle.tree.specs.Flags.{values_in}
use Rattle.tree.proofs.Keeping.{told-at, silent-at, told-long, orders-long}
use Rattle.tree.proofs.level.Level.value.Goals as goal

pub index-requires : goal.index-requires
index-requires c =
    let within : c.args.place < length (values_in c.self.inside.told.items c.self.inside.orders.items) = rw (← c.self.view_is) at c.requires in
    let long = told-long c.self.inside.told.items c.self.inside.orders.items c.self.invariant in
    let o = c.self.inside.told.ok in
    omega arith

pub index-requires-then-index : goal.index-requires-then-index
index-requires-then-index c =
    let within : c.args.place < length (values_in c.self.inside.told.items c.self.inside.orders.items) = rw (← c.self.view_is) at c.requires in
    let long = orders-long c.self.inside.told.items c.self.inside.orders.items c.self.invariant in
    let o = c.self.inside.orders.ok in
    omega arith

pub returns-then-index : goal.returns-then-index
returns-then-index c =
    let within : c.args.place < length (values_in c.self.inside.told.items c.self.inside.orders.items) = rw (← c.self.view_is) at c.requires in
    rw (← c.self.view_is) (told-at c.self.inside.told.items c.self.inside.orders.items c.args.place c.index.result.now c.index-then-index.result.now c.self.invariant within c.index.ensures c.if-index.true c.index-then-index.ensures)

pub returns-else-index : goal.returns-else-index
returns-else-index c =
    let within : c.args.place < length (values_in c.self.inside.told.items c.self.inside.orders.items) = rw (← c.self.view_is) at c.requires in
    rw (← c.self.view_is) (silent-at c.self.inside.told.items c.self.inside.orders.items c.args.place c.index.result.now c.self.invariant within c.index.ensures c.if-index.false)
