-- All rows are written, as mixed rows.
use Rattle.std.proofs.Common.{◌≡◌, List, sym, ap, ◌∙◌, length, arith}
use Rattle.outbox.specs.Rows.{RowOrders, put_first, found_first, rows_seen}
use Rattle.outbox.proofs.AlikeRows.{apart_all, seen_all}
use Rattle.outbox.proofs.Outcomes.{each_put}
use Rattle.outbox.proofs.Whole.{first_long}
use Rattle.outbox.proofs.rows.Rows.put_in_each.Goals as goal

pub put_in_each-requires-clause-few : goal.put_in_each-requires-clause-few
put_in_each-requires-clause-few g c =
    let lent = ap length (c.as_mut_slice.ensures.value ∙ (apart_all c.self.inside.alike.items c.as_slice.result.now c.self.inside.apart.items c.set_apart.new.apart.items c.args.self.now c.as_slice.ensures.value c.set_apart.ensures.rows c.self.view_is)) in
    let few = c.requires.few in
    omega arith

pub returns-clause-count : goal.returns-clause-count
returns-clause-count g c =
    c.put_in_each.ensures.count ∙ ap (λ rows. found_first c.args.receiver (length rows) rows) (c.as_mut_slice.ensures.value ∙ (apart_all c.self.inside.alike.items c.as_slice.result.now c.self.inside.apart.items c.set_apart.new.apart.items c.args.self.now c.as_slice.ensures.value c.set_apart.ensures.rows c.self.view_is))

pub returns-clause-rows : goal.returns-clause-rows
returns-clause-rows g c f tells =
    let all : c.set_apart.new.apart.items ≡ c.args.self.now = apart_all c.self.inside.alike.items c.as_slice.result.now c.self.inside.apart.items c.set_apart.new.apart.items c.args.self.now c.as_slice.ensures.value c.set_apart.ensures.rows c.self.view_is in
    let done = each_put c.set_apart.new.apart.len c.args.receiver f c.set_apart.new.apart.items c.as_mut_slice.result.now c.put_in_each.new.labels
    (sym c.as_mut_slice.ensures.len ∙ ap length c.as_mut_slice.ensures.value) c.as_mut_slice.ensures.value (c.put_in_each.ensures.rows f tells) in
    seen_all c.self.inside.alike.items c.self.inside.apart.items _ (ap length done ∙ (first_long c.args.receiver f 0 (length c.set_apart.new.apart.items) c.set_apart.new.apart.items ∙ ap length (c.set_apart.ensures.rows ∙ ap (λ (rows : List RowOrders). rows_seen rows c.self.inside.apart.items) c.as_slice.ensures.value)))
    ∙ (done ∙ ap (λ (rows : List RowOrders). put_first c.args.receiver f 0 (length rows) rows) all)
