-- There is a row of the label, or no such label.
use Rattle.std.proofs.Common.{◌<◌, ◌≤◌, [], ap, length, get_or, arith}
use Rattle.outbox.specs.Contents.{entries_of, relay_of}
use Rattle.outbox.specs.Orders.{orders_seen}
use Rattle.outbox.specs.Rows.{RowOrders, order_in}
use Rattle.outbox.proofs.Looks.{order_past, order_found}
use Rattle.outbox.proofs.Single.{same_default}
use Rattle.outbox.proofs.outbox.Outbox.orders.Goals as goal

pub returns-then-rank-len-clause-orders : goal.returns-then-rank-len-clause-orders
returns-then-rank-len-clause-orders c receiver =
    let past : length c.self.inside.rows ≤ c.args.rank = let n = c.len.ensures in omega arith in
    order_past c.args.self.now (relay_of c.self.inside.shape c.self.inside.signing) (entries_of c.self.inside.signing) c.self.inside.rows c.args.rank receiver c.self.view_is past

pub at-requires : goal.at-requires
at-requires c = let n = c.len.ensures in omega arith

pub returns-clause-orders : goal.returns-clause-orders
returns-clause-orders c receiver =
    let row : RowOrders = get_or c.self.inside.rows c.args.rank [] in
    let inside : c.args.rank < length c.self.inside.rows = let n = c.len.ensures in omega arith in
    order_found c.args.self.now (relay_of c.self.inside.shape c.self.inside.signing) (entries_of c.self.inside.signing) c.self.inside.rows c.args.rank receiver row (order_in receiver (orders_seen c.at.result)) c.self.view_is c.self.invariant inside (same_default c.self.inside.rows c.args.rank [] row inside) (ap (order_in receiver) c.at.ensures)
