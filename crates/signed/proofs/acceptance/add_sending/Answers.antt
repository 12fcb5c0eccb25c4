use Rattle.std.proofs.Common.{ℕ, List, map, take, sym, ap, ◌∙◌, arith}
use Rattle.signed.specs.Entries.{received}
use Rattle.signed.specs.Sending.{added_also, added_by, dispatch_of}
use Rattle.signed.proofs.Adding.{one_added, came_counts, came_idle, came_not}
use Rattle.signed.proofs.acceptance.add_sending.Goals as goal
use Rattle.signed.proofs.acceptance.add_sending.Goals.{then-has+then-counts, else-has, else-has-via-then-has+else-counts, else-has-via-else-has}

pub loop-chain-preserved : goal.loop-chain-preserved
loop-chain-preserved c = λ seen first.
    let k = c.args.number in
    let p = c.args.general in
    let x = c.loop-chain-item.result in
    let before : List ℕ = added_by k p seen (received p (map dispatch_of (take c.loop-chain.chain-index c.chains-chain-items.result.now))) in
    let kept = c.loop-chain.invariant seen first in
    let more = one_added k p seen c.chains-chain-items.result.now c.loop-chain.chain-index x (omega arith) (omega arith) c.loop-chain-item.is in
    elim c.if-has.branch [
      | then-has+then-counts w ↦
          rw w.orders-is (w.add.ensures before kept ∙ ap (λ (orders : List ℕ). take 8 orders)
          (ap (added_also before) w.order.ensures ∙ sym (more ∙ came_counts k p before x (sym c.has.ensures ∙ w.if-has.true) (sym w.counts.ensures ∙ w.if-counts.true))))
      | else-has w ↦ elim w.else-has.branch [
        | else-has-via-then-has+else-counts v ↦
            rw w.orders-is (kept ∙ ap (λ (orders : List ℕ). take 8 orders) (sym (more ∙ came_idle k p before x (sym c.has.ensures ∙ v.if-has.true) (sym v.counts.ensures ∙ v.if-counts.false))))
        | else-has-via-else-has v ↦
            rw w.orders-is (kept ∙ ap (λ (orders : List ℕ). take 8 orders) (sym (more ∙ came_not k p before x (sym c.has.ensures ∙ v.if-has.false))))
      ]
    ]
