-- One of the mixed rows is written.
use Rattle.std.proofs.Common.{◌≡◌, ap, ◌∙◌, length, min, arith, length-set}
use Rattle.outbox.specs.Rows.{filled}
use Rattle.outbox.proofs.AlikeRows.{apart_all, one_apart, one_at}
use Rattle.outbox.proofs.rows.Rows.fill.Goals as goal

pub invariant_of-self : goal.invariant_of-self
invariant_of-self c none =
    let all : c.set_apart.new.apart.items ≡ c.args.self.now = apart_all c.self.inside.alike.items c.as_slice.result.now c.self.inside.apart.items c.set_apart.new.apart.items c.args.self.now c.as_slice.ensures.value c.set_apart.ensures.rows c.self.view_is in
    let long = ap length all in
    let kept = length-set c.set_apart.new.apart.items c.args.rank c.fill.new.self in
    let inside = c.requires in
    absurd (omega arith)

pub returns-clause-rows : goal.returns-clause-rows
returns-clause-rows c =
    one_apart c.self.inside.alike.items c.self.inside.apart.items c.set_apart.new.apart.items c.args.self.now c.args.rank c.index_mut.result.now c.fill.new.self (filled c.args.orders.now) c.self.view_is (apart_all c.self.inside.alike.items c.as_slice.result.now c.self.inside.apart.items c.set_apart.new.apart.items c.args.self.now c.as_slice.ensures.value c.set_apart.ensures.rows c.self.view_is) c.requires c.index_mut.ensures.value c.fill.ensures.row

pub returns-clause-count : goal.returns-clause-count
returns-clause-count c =
    c.fill.ensures.count ∙ ap (λ row. min (length row) (length c.args.orders.now)) (one_at c.set_apart.new.apart.items c.args.self.now c.args.rank c.index_mut.result.now (apart_all c.self.inside.alike.items c.as_slice.result.now c.self.inside.apart.items c.set_apart.new.apart.items c.args.self.now c.as_slice.ensures.value c.set_apart.ensures.rows c.self.view_is) c.requires c.index_mut.ensures.value)
