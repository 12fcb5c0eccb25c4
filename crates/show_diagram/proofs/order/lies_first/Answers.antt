use Rattle.std.proofs.Common.{◌∙◌, arith, get_or, refl}
use Rattle.show_diagram.specs.declared.told_order.Telling.{Telling}
use Rattle.show_diagram.specs.Lists.{teller}
use Rattle.show_diagram.proofs.ListLemmas.{parted_all}
use Rattle.show_diagram.proofs.OrderLemmas.{parted_more}
use Rattle.show_diagram.proofs.TallyLemmas.{nothing_told}
use Rattle.show_diagram.proofs.order.lies_first.Goals as goal

pub loop-lie-preserved : goal.loop-lie-preserved
loop-lie-preserved c =
    let xs = c.deref-lie-items.result.now in
    let i = c.loop-lie.lie-index in
    let x : Telling = get_or xs i nothing_told in
    parted_more teller xs i x nothing_told c.is_by_one_of-is_other.result c.as_slice.result.now c.loop-lie.rows.items c.loop-lie.others.items c.push_if.new.kept.items c.push_if-in-loop-lie.new.kept.items
    (let l = c.loop-lie-test.true in omega arith) refl c.as_slice.ensures.value c.is_by_one_of-is_other.ensures c.loop-lie.invariant.0 c.loop-lie.invariant.1
    c.in_ok-push_if.ensures c.in_ok-push_if-2.ensures

pub returns : goal.returns
returns c =
    parted_all c.args.list.now c.deref-lie-items.result.now c.loop-lie.rows.items c.loop-lie.others.items c.in_ok-honest.honest.items c.append.new.self.items c.append-2.new.self.items c.loop-lie.lie-index
    (let l = c.loop-lie-test.false in omega arith) (c.deref-lie-items.ensures.value ∙ c.in_ok-lies.ensures) c.loop-lie.invariant.0 c.loop-lie.invariant.1 c.in_ok-honest.ensures
    c.in_ok-append.ensures.items c.in_ok-append-2.ensures.items
