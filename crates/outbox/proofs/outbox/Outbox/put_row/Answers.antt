-- There is a row of the label, or no such label.
use Rattle.std.proofs.Common.{List, ◌<◌, ◌≤◌, [], map, refl, sym, ap, subst, ◌∙◌, length, get_or, arith}
use Rattle.semantics.specs.Outbox.{along_row}
use Rattle.semantics.specs.Relay.{Relay}
use Rattle.outbox.specs.Rows.{RowOrders, orders_in, filled}
use Rattle.outbox.specs.Contents.{IsOutbox, entries_of, relay_of}
use Rattle.outbox.proofs.Single.{absent_written, absent_count, only_row, along_written, along_count, filled_names, same_default, single_stands}
use Rattle.outbox.proofs.outbox.Outbox.put_row.Goals as goal

pub returns-then-rank-len-clause-rows : goal.returns-then-rank-len-clause-rows
returns-then-rank-len-clause-rows c =
    let past : length c.self.inside.rows ≤ c.args.rank = let n = c.len.ensures in omega arith in
    absent_written (along_row c.args.rank c.args.orders.now) c.args.self.now (relay_of c.self.inside.shape c.self.inside.signing) (entries_of c.self.inside.signing) c.self.inside.rows c.args.rank (only_row c.args.rank c.args.orders.now) c.self.view_is c.self.invariant past

pub returns-then-rank-len-clause-count : goal.returns-then-rank-len-clause-count
returns-then-rank-len-clause-count c =
    let past : length c.self.inside.rows ≤ c.args.rank = let n = c.len.ensures in omega arith in
    sym (absent_count (along_row c.args.rank c.args.orders.now) c.args.self.now (relay_of c.self.inside.shape c.self.inside.signing) (entries_of c.self.inside.signing) c.self.inside.rows c.args.rank (only_row c.args.rank c.args.orders.now) c.self.view_is c.self.invariant past)

pub fill-requires : goal.fill-requires
fill-requires c = let n = c.len.ensures in omega arith

pub invariant_of-self : goal.invariant_of-self
invariant_of-self c =
    let relay : Relay = relay_of c.self.inside.shape c.self.inside.signing in
    let row : RowOrders = get_or c.self.inside.rows c.args.rank [] in
    let inside : c.args.rank < length c.self.inside.rows = let n = c.len.ensures in omega arith in
    subst (λ (rows : List RowOrders). IsOutbox relay rows) (sym c.fill.ensures.rows)
    (single_stands relay c.self.inside.rows c.args.rank row (filled c.args.orders.now row) c.self.invariant inside (same_default c.self.inside.rows c.args.rank [] row inside) (filled_names c.args.orders.now row))

pub returns-clause-rows : goal.returns-clause-rows
returns-clause-rows c =
    let row : RowOrders = get_or c.self.inside.rows c.args.rank [] in
    let inside : c.args.rank < length c.self.inside.rows = let n = c.len.ensures in omega arith in
    ap (map orders_in) c.fill.ensures.rows
    ∙ along_written c.args.self.now (relay_of c.self.inside.shape c.self.inside.signing) (entries_of c.self.inside.signing) c.self.inside.rows c.args.rank c.args.orders.now row (filled c.args.orders.now row) c.self.view_is c.self.invariant inside (same_default c.self.inside.rows c.args.rank [] row inside) refl

pub returns-clause-count : goal.returns-clause-count
returns-clause-count c =
    let row : RowOrders = get_or c.self.inside.rows c.args.rank [] in
    let inside : c.args.rank < length c.self.inside.rows = let n = c.len.ensures in omega arith in
    along_count c.args.self.now (relay_of c.self.inside.shape c.self.inside.signing) (entries_of c.self.inside.signing) c.self.inside.rows c.args.rank c.args.orders.now row c.fill.result c.self.view_is c.self.invariant inside (same_default c.self.inside.rows c.args.rank [] row inside) c.fill.ensures.count
