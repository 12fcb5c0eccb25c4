use Rattle.std.proofs.Common.{ℕ, List, [], ◌∷◌, ◌++◌, ◌∙◌, ap, arith, get_or, map, refl}
use Rattle.show_chains.specs.Strokes.{Drawn, made}
use Rattle.show_chains.proofs.StrokeLemmas.{grouped_more, grouped_all}
use Rattle.show_chains.proofs.strokes.push_grouped.Goals as goal

pub loop-order-preserved : goal.loop-order-preserved
loop-order-preserved c =
    let a = c.args in
    let os = c.deref-order-items.result.now in
    let o : ℕ = get_or os c.loop-order.order-index 0 in
    grouped_more (made a.way a.chains.now) os a.list.now.items c.loop-order.list.items c.push.new.self.items c.loop-order.order-index o 0 (omega arith) refl c.loop-order.invariant
    (c.in_ok-push.ensures.items ∙ ap (λ (s : Drawn). c.loop-order.list.items ++ s ∷ []) c.in_ok-stroke.ensures)

pub returns : goal.returns
returns c =
    let a = c.args in
    let start = a.list.now.items in
    grouped_all (made a.way a.chains.now) c.deref-order-items.result.now start c.loop-order.list.items c.loop-order.order-index (omega arith) c.loop-order.invariant
    ∙ ap (λ (os : List ℕ). start ++ map (made a.way a.chains.now) os) (c.deref-order-items.ensures.value ∙ c.in_ok-orders.ensures)
