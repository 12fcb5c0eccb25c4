-- One of the mixed rows is written.
use Rattle.std.proofs.Common.{◌≡◌, ap, ◌∙◌, length, arith, length-set}
use Rattle.label.specs.Labels.{on}
use Rattle.outbox.specs.Rows.{receivers_in, put_in_row}
use Rattle.outbox.proofs.AlikeRows.{apart_all, one_apart, one_at}
use Rattle.outbox.proofs.rows.Rows.put.Goals as goal

pub invariant_of-self : goal.invariant_of-self
invariant_of-self c none =
    let all : c.set_apart.new.apart.items ≡ c.args.self.now = apart_all c.self.inside.alike.items c.as_slice.result.now c.self.inside.apart.items c.set_apart.new.apart.items c.args.self.now c.as_slice.ensures.value c.set_apart.ensures.rows c.self.view_is in
    let long = ap length all in
    let kept = length-set c.set_apart.new.apart.items c.args.rank c.put.new.self in
    let inside = c.requires in
    absurd (omega arith)

pub returns-clause-rows : goal.returns-clause-rows
returns-clause-rows c =
    one_apart c.self.inside.alike.items c.self.inside.apart.items c.set_apart.new.apart.items c.args.self.now c.args.rank c.index_mut.result.now c.put.new.self (put_in_row c.args.receiver c.args.order) c.self.view_is (apart_all c.self.inside.alike.items c.as_slice.result.now c.self.inside.apart.items c.set_apart.new.apart.items c.args.self.now c.as_slice.ensures.value c.set_apart.ensures.rows c.self.view_is) c.requires c.index_mut.ensures.value c.put.ensures.row

pub returns-clause-there : goal.returns-clause-there
returns-clause-there c =
    c.put.ensures.there ∙ ap (λ row. on (receivers_in row) c.args.receiver) (one_at c.set_apart.new.apart.items c.args.self.now c.args.rank c.index_mut.result.now (apart_all c.self.inside.alike.items c.as_slice.result.now c.self.inside.apart.items c.set_apart.new.apart.items c.args.self.now c.as_slice.ensures.value c.set_apart.ensures.rows c.self.view_is) c.requires c.index_mut.ensures.value)
