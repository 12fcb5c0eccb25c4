use Rattle.std.proofs.Common.{arith}
use Rattle.std.proofs.lemmas.List.{take_rest}
use Rattle.combine.proofs.Joining.{joined}
use Rattle.combine.proofs.orders.orders_of.Goals as goal

pub returns : goal.returns
returns c = joined c.args.told.now _ c.args.place c.args.own c.loop-y.y-index c.loop-y.orders.items c.loop-y.invariant (take_rest c.args.told.now c.args.place) (let h = c.loop-y-test.false in omega arith)
