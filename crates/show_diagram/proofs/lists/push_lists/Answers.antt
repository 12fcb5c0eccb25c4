use Rattle.std.proofs.Common.{◌+◌, ◌∙◌, ap}
use Rattle.show_diagram.specs.Lists.{count_of, list_behind}
use Rattle.show_diagram.proofs.ListLemmas.{list_is}
use Rattle.show_diagram.proofs.RowLemmas.{lists_more}
use Rattle.show_diagram.proofs.lists.push_lists.Goals as goal

pub loop-before-preserved : goal.loop-before-preserved
loop-before-preserved c =
    let a = c.args in
    let before = c.loop-before.before in
    lists_more (list_behind a.receiver a.tellings.now) before a.strokes.now.items c.loop-before.strokes.items c.push_list.new.strokes.items c.loop-before.invariant
    (list_is a.receiver (c.from-round.result + 1) before a.tellings.now c.as_slice.result.now (count_of c.in_ok-counts.counts) c.loop-before.strokes.items c.push_list.new.strokes.items
    (c.as_slice.ensures.value ∙ c.in_ok-things.ensures) (ap (λ k. k + 1) c.from-round.ensures) c.in_ok-counts.ensures c.in_ok-push_list.ensures)
