-- One more tree is filled.
use Rattle.std.proofs.Common.{◌≡◌, ◌<◌, ◌∙◌, ℕ, length, ap, arith}
use Rattle.std.specs.Prelude.{slice_index_or}
use Rattle.label.specs.Labels.{labels}
use Rattle.label.proofs.Places.{first_label}
use Rattle.outbox.specs.Orders.{order_of_row}
use Rattle.round.specs.Delivery.{IsTold}
use Rattle.round.proofs.EachTree.{done_next, done_all, not_done}
use Rattle.round.proofs.Together.{first_done, stays_read}
use Rattle.round.proofs.delivery.fill_first.Goals as goal

pub set-requires-clause-within : goal.set-requires-clause-within
set-requires-clause-within c =
    let t = slice_index_or c.loop-index.trees c.loop-index.index c.index-trees-index.result in
    let one : length (labels t.generals t.commander t.general 1) ≡ 1 = ap length (first_label t.generals t.commander t.general c.space-receiver.ensures.kind.lieutenant) in
    omega arith

pub loop-index-preserved : goal.loop-index-preserved
loop-index-preserved c =
    let row = c.args.letters.now in let trees = c.loop-index.trees in let i = c.loop-index.index in
    let t = slice_index_or trees i c.index-trees-index.result in
    let lt : i < length trees = let f = c.loop-index.invariant.count in let l = c.loop-index-test.true in omega arith in
    let at = stays_read trees i c.index-trees-index.result lt in
    let d = c.requires.trees.1 i t (not_done (IsTold row) c.args.trees.now i trees t c.loop-index.invariant lt at) in
    let own : c.space-receiver.result.general ≡ t.general = c.space-receiver.ensures.general in
    done_next (IsTold row) c.args.trees.now i trees t c.set.new.self c.loop-index.invariant lt at
    (first_done c.requires.trees.0 c.args.commander row t c.set.new.self c.order_in_row.result d c.requires.round
    (c.order_in_row.ensures ∙ (ap (λ (q : ℕ). order_of_row c.row_in-row.result q) own ∙ c.row_in-row.ensures t.general c.requires.indices))
    c.set.ensures.same c.set.ensures.filled)

pub returns : goal.returns
returns c = done_all (IsTold c.args.letters.now) c.args.trees.now c.loop-index.index c.loop-index.trees c.loop-index.invariant (let f = c.loop-index.invariant.count in let l = c.loop-index-test.false in omega arith)
