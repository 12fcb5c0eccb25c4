use Rattle.std.proofs.Common.{◌<◌, length, arith}
use Rattle.outbox.proofs.Masking.{put_is}
use Rattle.outbox.proofs.orders_by_number.OrdersByNumber.put.Goals as goal

pub returns : goal.returns
returns c =
    let inside : c.args.place < length c.self.inside.orders = let long = c.self.invariant in omega arith in
    put_is c.self.inside.put c.with_bit-self-inside.result c.args.place c.args.order c.self.inside.orders c.args.self.now c.self.view_is c.with_bit-self-inside.ensures inside
