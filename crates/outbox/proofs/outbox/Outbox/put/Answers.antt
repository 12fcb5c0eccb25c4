-- There is a row of the label, or no such label.
use Rattle.std.proofs.Common.{List, ◌<◌, ◌≤◌, [], map, refl, sym, ap, subst, ◌∙◌, length, get_or, arith}
use Rattle.semantics.specs.Outbox.{at_place}
use Rattle.semantics.specs.Relay.{Relay}
use Rattle.outbox.specs.Rows.{RowOrders, orders_in, put_in_row}
use Rattle.outbox.specs.Contents.{IsOutbox, entries_of, order_at, relay_of}
use Rattle.outbox.proofs.Whole.{put_names}
use Rattle.outbox.proofs.Single.{absent_written, only_place, place_written, place_there, place_absent, same_default, single_stands}
use Rattle.outbox.proofs.Looks.{found_after}
use Rattle.outbox.proofs.outbox.Outbox.put.Goals as goal

pub returns-then-rank-len-clause-rows : goal.returns-then-rank-len-clause-rows
returns-then-rank-len-clause-rows c =
    let past : length c.self.inside.rows ≤ c.args.rank = let n = c.len.ensures in omega arith in
    absent_written (at_place c.args.rank c.args.receiver c.args.order) c.args.self.now (relay_of c.self.inside.shape c.self.inside.signing) (entries_of c.self.inside.signing) c.self.inside.rows c.args.rank (only_place c.args.rank c.args.receiver c.args.order) c.self.view_is c.self.invariant past

pub returns-then-rank-len-clause-there : goal.returns-then-rank-len-clause-there
returns-then-rank-len-clause-there c =
    let past : length c.self.inside.rows ≤ c.args.rank = let n = c.len.ensures in omega arith in
    place_absent c.args.self.now (relay_of c.self.inside.shape c.self.inside.signing) (entries_of c.self.inside.signing) c.self.inside.rows c.args.rank c.args.receiver c.args.order c.self.view_is c.self.invariant past

pub put-requires : goal.put-requires
put-requires c = let n = c.len.ensures in omega arith

pub invariant_of-self : goal.invariant_of-self
invariant_of-self c =
    let relay : Relay = relay_of c.self.inside.shape c.self.inside.signing in
    let row : RowOrders = get_or c.self.inside.rows c.args.rank [] in
    let inside : c.args.rank < length c.self.inside.rows = let n = c.len.ensures in omega arith in
    subst (λ (rows : List RowOrders). IsOutbox relay rows) (sym c.put.ensures.rows)
    (single_stands relay c.self.inside.rows c.args.rank row (put_in_row c.args.receiver c.args.order row) c.self.invariant inside (same_default c.self.inside.rows c.args.rank [] row inside) (put_names c.args.receiver c.args.order row))

pub returns-clause-rows : goal.returns-clause-rows
returns-clause-rows c =
    let row : RowOrders = get_or c.self.inside.rows c.args.rank [] in
    let inside : c.args.rank < length c.self.inside.rows = let n = c.len.ensures in omega arith in
    ap (map orders_in) c.put.ensures.rows
    ∙ place_written c.args.self.now (relay_of c.self.inside.shape c.self.inside.signing) (entries_of c.self.inside.signing) c.self.inside.rows c.args.rank c.args.receiver c.args.order row (put_in_row c.args.receiver c.args.order row) c.self.view_is c.self.invariant inside (same_default c.self.inside.rows c.args.rank [] row inside) refl

pub returns-clause-there : goal.returns-clause-there
returns-clause-there c =
    let row : RowOrders = get_or c.self.inside.rows c.args.rank [] in
    let inside : c.args.rank < length c.self.inside.rows = let n = c.len.ensures in omega arith in
    place_there c.args.self.now (relay_of c.self.inside.shape c.self.inside.signing) (entries_of c.self.inside.signing) c.self.inside.rows c.args.rank c.args.receiver c.args.order row c.put.result c.self.view_is c.self.invariant inside (same_default c.self.inside.rows c.args.rank [] row inside) c.put.ensures.there

pub returns-clause-found : goal.returns-clause-found
returns-clause-found c there =
    let relay : Relay = relay_of c.self.inside.shape c.self.inside.signing in
    let row : RowOrders = get_or c.self.inside.rows c.args.rank [] in
    let inside : c.args.rank < length c.self.inside.rows = let n = c.len.ensures in omega arith in
    ap (λ (rows : List RowOrders). order_at relay (map orders_in rows) c.args.rank c.args.receiver) c.put.ensures.rows
    ∙ found_after relay c.self.inside.rows c.args.rank c.args.receiver c.args.order row (put_in_row c.args.receiver c.args.order row) c.put.result c.self.invariant inside (same_default c.self.inside.rows c.args.rank [] row inside) refl c.put.ensures.there there
