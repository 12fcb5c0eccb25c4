-- There is a row of the label, or no such label.
use Rattle.std.proofs.Common.{◌<◌, ◌≤◌, [], ap, ◌∙◌, length, get_or, arith}
use Rattle.outbox.specs.Contents.{entries_of, relay_of}
use Rattle.outbox.specs.Rows.{RowOrders, order_in}
use Rattle.outbox.proofs.Looks.{order_past, order_found}
use Rattle.outbox.proofs.Single.{same_default}
use Rattle.outbox.proofs.outbox.Outbox.get.Goals as goal

pub returns-then-rank-len : goal.returns-then-rank-len
returns-then-rank-len c =
    let past : length c.self.inside.rows ≤ c.args.rank = let n = c.len.ensures in omega arith in
    order_past c.args.self.now (relay_of c.self.inside.shape c.self.inside.signing) (entries_of c.self.inside.signing) c.self.inside.rows c.args.rank c.args.receiver c.self.view_is past

pub at-requires : goal.at-requires
at-requires c = let n = c.len.ensures in omega arith

pub returns : goal.returns
returns c =
    let row : RowOrders = get_or c.self.inside.rows c.args.rank [] in
    let inside : c.args.rank < length c.self.inside.rows = let n = c.len.ensures in omega arith in
    order_found c.args.self.now (relay_of c.self.inside.shape c.self.inside.signing) (entries_of c.self.inside.signing) c.self.inside.rows c.args.rank c.args.receiver row c.order.result c.self.view_is c.self.invariant inside (same_default c.self.inside.rows c.args.rank [] row inside) (c.order.ensures ∙ ap (order_in c.args.receiver) c.at.ensures)
