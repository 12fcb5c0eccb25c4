use Rattle.std.proofs.Common.{◌≤◌, ◌+◌, length, ap, ◌∙◌, map}
use Rattle.std.specs.Prelude.{is_some}
use Rattle.label.specs.Oral.{order_of}
use Rattle.tree.specs.Flags.{values_in}
use Rattle.tree.specs.LieutenantTree.{run_written}
use Rattle.tree.proofs.Keeping.{made-kept, values-made, run-flags, run-orders, written, told-long, orders-long}
use Rattle.tree.proofs.level.Level.put_run.Goals as goal

pub write_run-requires-clause-orders : goal.write_run-requires-clause-orders
write_run-requires-clause-orders g c =
    let within : c.args.first + c.args.count ≤ length (values_in c.self.inside.told.items c.self.inside.orders.items) = rw (← c.self.view_is) at c.requires.within in
    rw (c.as_mut_slice.ensures.value, orders-long c.self.inside.told.items c.self.inside.orders.items c.self.invariant) within

pub write_run-requires-clause-told : goal.write_run-requires-clause-told
write_run-requires-clause-told g c =
    let within : c.args.first + c.args.count ≤ length (values_in c.self.inside.told.items c.self.inside.orders.items) = rw (← c.self.view_is) at c.requires.within in
    rw (c.as_mut_slice-2.ensures.value, told-long c.self.inside.told.items c.self.inside.orders.items c.self.invariant) within

pub invariant_of-self : goal.invariant_of-self
invariant_of-self g c =
    let wrote = c.write_run.ensures in
    made-kept _ _ (run_written c.args.first wrote.0 (values_in c.self.inside.told.items c.self.inside.orders.items))
    (run-flags c.self.inside.told.items _ c.self.inside.orders.items c.args.first wrote.0 c.self.invariant (written c.self.inside.told c.args.first (map is_some wrote.0) c.as_mut_slice-2.result.now c.write_run.new.told c.as_mut_slice-2.ensures.value wrote.3))
    (run-orders c.self.inside.told.items c.self.inside.orders.items _ c.args.first wrote.0 c.self.invariant (written c.self.inside.orders c.args.first (map order_of wrote.0) c.as_mut_slice.result.now c.write_run.new.orders c.as_mut_slice.ensures.value wrote.2))

pub returns : goal.returns
returns g c =
    let wrote = c.write_run.ensures in (
      wrote.0,
      wrote.1,
      values-made _ _ (run_written c.args.first wrote.0 (values_in c.self.inside.told.items c.self.inside.orders.items))
          (run-flags c.self.inside.told.items _ c.self.inside.orders.items c.args.first wrote.0 c.self.invariant (written c.self.inside.told c.args.first (map is_some wrote.0) c.as_mut_slice-2.result.now c.write_run.new.told c.as_mut_slice-2.ensures.value wrote.3))
          (run-orders c.self.inside.told.items c.self.inside.orders.items _ c.args.first wrote.0 c.self.invariant (written c.self.inside.orders c.args.first (map order_of wrote.0) c.as_mut_slice.result.now c.write_run.new.orders c.as_mut_slice.ensures.value wrote.2))
          ∙ ap (run_written c.args.first wrote.0) c.self.view_is,
    )
