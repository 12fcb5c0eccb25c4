use Rattle.std.proofs.Common.{[], ◌∷◌, ◌++◌, ◌∙◌, ap, cond, sym, map-id}
use Rattle.std.proofs.lemmas.Iterator.Adapters.{YieldsList-from_vec}
use Rattle.std.proofs.lemmas.Iterator.Consumers.{YieldsList-end}
use Rattle.std.proofs.lemmas.List.Elements.{filter-append}
use Rattle.show_diagram.specs.Lists.{has_row}
use Rattle.show_chains.specs.Strokes.{Drawn, with_rows}
use Rattle.show_chains.proofs.order.with_rows.Goals as goal

pub loop-stroke-preserved : goal.loop-stroke-preserved
loop-stroke-preserved c =
    let x : Drawn = c.in-Some.stroke in
    c.in_ok-push_drawn.ensures
    ∙ (ap (λ xs. xs ++ cond (has_row x.stroke) (x ∷ []) []) c.loop-stroke.invariant ∙ sym (filter-append (λ (y : Drawn). has_row y.stroke) c.loop-stroke.yielded (x ∷ [])))

pub returns : goal.returns
returns c =
    let given = c.into_iter-stroke-iterator.ensures.into_iter_gives in
    let chain = YieldsList-from_vec {s = c.into_iter-stroke-iterator.result} c.args.list.items given.0 (given.1 ∙ c.args.list.ok.0) in
    let all = YieldsList-end chain c.loop-stroke.yielded c.loop-stroke.stroke-iterator c.loop-stroke.yielded_by _ c.next.new.self c.in-None.is c.next.ensures.steps in
    c.loop-stroke.invariant ∙ ap with_rows (sym (map-id c.loop-stroke.yielded) ∙ all.0)
