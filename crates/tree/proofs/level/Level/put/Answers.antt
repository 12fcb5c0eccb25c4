use Rattle.std.proofs.Common.{◌<◌, length, refl, ap, ◌∙◌, arith}
use Rattle.std.proofs.Math.ListN.{set}
use Rattle.tree.specs.Flags.{values_in}
use Rattle.tree.proofs.Keeping.{made-kept, values-made, put-flags, put-orders, told-long, orders-long}
use Rattle.tree.proofs.level.Level.put.Goals as goal

pub index_mut-requires : goal.index_mut-requires
index_mut-requires c =
    let within : c.args.place < length (values_in c.self.inside.told.items c.self.inside.orders.items) = rw (← c.self.view_is) at c.requires in
    let long = orders-long c.self.inside.told.items c.self.inside.orders.items c.self.invariant in
    let o = c.self.inside.orders.ok in
    omega arith

pub index_mut-requires-2 : goal.index_mut-requires-2
index_mut-requires-2 c =
    let within : c.args.place < length (values_in c.self.inside.told.items c.self.inside.orders.items) = rw (← c.self.view_is) at c.requires in
    let long = told-long c.self.inside.told.items c.self.inside.orders.items c.self.invariant in
    let o = c.self.inside.told.ok in
    omega arith

pub invariant_of-self : goal.invariant_of-self
invariant_of-self c =
    made-kept _ _ (set (values_in c.self.inside.told.items c.self.inside.orders.items) c.args.place c.args.value)
    (put-flags c.self.inside.told.items _ c.self.inside.orders.items c.args.place c.args.value c.is_some.result c.self.invariant c.is_some.ensures refl)
    (put-orders c.self.inside.told.items c.self.inside.orders.items _ c.args.place c.args.value c.unwrap_or.result c.self.invariant c.unwrap_or.ensures refl)

pub returns : goal.returns
returns c =
    values-made _ _ (set (values_in c.self.inside.told.items c.self.inside.orders.items) c.args.place c.args.value)
    (put-flags c.self.inside.told.items _ c.self.inside.orders.items c.args.place c.args.value c.is_some.result c.self.invariant c.is_some.ensures refl)
    (put-orders c.self.inside.told.items c.self.inside.orders.items _ c.args.place c.args.value c.unwrap_or.result c.self.invariant c.unwrap_or.ensures refl)
    ∙ ap (λ vs. set vs c.args.place c.args.value) c.self.view_is
