use Rattle.std.proofs.Common.{◌∙◌, sym, map-id}
use Rattle.std.proofs.lemmas.Iterator.Adapters.{YieldsList-from_vec}
use Rattle.std.proofs.lemmas.Iterator.Consumers.{YieldsList-end}
use Rattle.show_diagram.proofs.OrderLemmas.{parted_push, parted_whole}
use Rattle.show_chains.specs.Strokes.{is_lie, sender}
use Rattle.show_chains.proofs.order.lies_first.Goals as goal

pub loop-stroke-preserved : goal.loop-stroke-preserved
loop-stroke-preserved c =
    parted_push is_lie sender c.loop-stroke.yielded c.in-Some.stroke c.loop-stroke.rows.items c.loop-stroke.others.items c.loop-stroke.honest.items
    c.push_part.new.rows.items c.push_part.new.others.items c.push_part.new.honest.items
    c.loop-stroke.invariant.0 c.loop-stroke.invariant.1 c.loop-stroke.invariant.2 c.in_ok-push_part.ensures.first c.in_ok-push_part.ensures.again c.in_ok-push_part.ensures.honest

pub returns : goal.returns
returns c =
    let given = c.into_iter-stroke-iterator.ensures.into_iter_gives in
    let chain = YieldsList-from_vec {s = c.into_iter-stroke-iterator.result} c.args.list.items given.0 (given.1 ∙ c.args.list.ok.0) in
    let all = YieldsList-end chain c.loop-stroke.yielded c.loop-stroke.stroke-iterator c.loop-stroke.yielded_by _ c.next.new.self c.in-None.is c.next.ensures.steps in
    parted_whole is_lie sender c.args.list.items c.loop-stroke.yielded c.loop-stroke.rows.items c.loop-stroke.others.items c.loop-stroke.honest.items c.append.new.self.items c.append-2.new.self.items
    (sym (map-id c.loop-stroke.yielded) ∙ all.0) c.loop-stroke.invariant.0 c.loop-stroke.invariant.1 c.loop-stroke.invariant.2 c.in_ok-append.ensures.items c.in_ok-append-2.ensures.items
