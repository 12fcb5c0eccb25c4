use Rattle.std.proofs.Common.{List, ◌∙◌, ap, length, sym, map-id}
use Rattle.std.proofs.lemmas.Iterator.Adapters.{YieldsList-from_vec}
use Rattle.std.proofs.lemmas.Iterator.Consumers.{YieldsList-end}
use Rattle.show_chains.specs.Strokes.{Drawn, numbered}
use Rattle.show_chains.proofs.StrokeLemmas.{numbered_more}
use Rattle.show_chains.proofs.order.numbered.Goals as goal

pub loop-stroke-preserved : goal.loop-stroke-preserved
loop-stroke-preserved c =
    numbered_more c.loop-stroke.yielded c.in-Some.stroke c.in_row.result c.loop-stroke.rows.items c.push.new.self.items _ c.loop-stroke.invariant
    (ap (λ (xs : List Drawn). length xs) c.as_slice-row.ensures.value) c.in_row.ensures c.in_ok-push.ensures.items

pub returns : goal.returns
returns c =
    let given = c.into_iter-stroke-iterator.ensures.into_iter_gives in
    let chain = YieldsList-from_vec {s = c.into_iter-stroke-iterator.result} c.args.list.items given.0 (given.1 ∙ c.args.list.ok.0) in
    let all = YieldsList-end chain c.loop-stroke.yielded c.loop-stroke.stroke-iterator c.loop-stroke.yielded_by _ c.next.new.self c.in-None.is c.next.ensures.steps in
    c.loop-stroke.invariant ∙ ap (λ (xs : List Drawn). numbered xs 0) (sym (map-id c.loop-stroke.yielded) ∙ all.0)
