use Rattle.std.proofs.Common.{rules, ℕ, ◌<◌, ◌++◌, ◌∷◌, List, Option, length, map, take, get_or, ap, sym, ◌∙◌, arith, append_assoc, None}
use Rattle.trace.specs.Text.{further, place}
use Rattle.trace.proofs.WrittenLemmas.{further_more}
use Rattle.trace.proofs.line_buffer.LineBuffer.add_orders.Goals as goal

pub loop-order-preserved : goal.loop-order-preserved
loop-order-preserved c =
    let orders : List (Option ℕ) = c.args.orders.now in
    let i : ℕ = c.loop-order.order-index in
    let inside : i < length orders = c.loop-order-test.true in
    let before : List ℕ = further (map place (take i orders)) in (
      c.with_place-count.ensures.bytes ∙ ap (λ l. l ++ 32 ∷ place (get_or orders i None)) c.loop-order.invariant.0 ∙ append_assoc c.args.self.now before (32 ∷ place (get_or orders i None))
          ∙ ap (λ t. c.args.self.now ++ t) (sym (further_more place orders i None inside)),
      omega (arith, c.loop-order.invariant.1, c.with_place-count.ensures.count),
      search (rules, c.loop-order.invariant.2),
    )
