use Rattle.std.proofs.Common.{w16}
use Rattle.std.proofs.lemmas.Int.{to_z-of_z}
use Rattle.verify.proofs.MemoryRows.{pointer_left}
use Rattle.verify.proofs.memory.store.Goals as goal

pub returns-in-Pointer : goal.returns-in-Pointer
returns-in-Pointer c =
    pointer_left c.args.size c.args.base.now c.args.value.now c.in_ok-base.base (c.in-Pointer.region, c.in-Pointer.offsets) _ c.args.distance c.args.stack.now c.store_pointer.new.stack
    c.store_pointer.result c.in_ok-base.ensures c.in-Pointer.is (to_z-of_z w16 c.args.distance c.ranges.distance) c.store_pointer.ensures
