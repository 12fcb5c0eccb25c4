use Rattle.std.proofs.Common.{ℕ, [], ◌∷◌, ◌++◌, ◌≡◌, ◌∙◌, ap, arith, get_or, refl}
use Rattle.std.specs.Prelude.{unwrap_or}
use Rattle.show_diagram.specs.declared.stroke.Stroke.{Stroke}
use Rattle.show_diagram.specs.declared.told_order.Telling.{Telling}
use Rattle.show_diagram.specs.Lists.{count_of, stroke_of}
use Rattle.show_diagram.proofs.ListLemmas.{rows_all, rows_more}
use Rattle.show_diagram.proofs.TallyLemmas.{nothing_told}
use Rattle.show_diagram.proofs.lists.push_rows.Goals as goal

pub loop-row-preserved : goal.loop-row-preserved
loop-row-preserved c =
    let a = c.args in
    let row = c.loop-row.row in
    let x : Telling = get_or a.list.now row nothing_told in
    let labels : c.unwrap_or-labels.result ≡ count_of a.counts.now x = c.unwrap_or-labels.ensures ∙ ap (λ o. unwrap_or o 0) (c.copied.ensures ∙ c.get.ensures.value) in
    rows_more a.receiver (count_of a.counts.now) a.list.now row x nothing_told a.strokes.now.items c.loop-row.strokes.items c.push.new.self.items
    (let l = c.loop-row-test.true in omega arith) refl c.loop-row.invariant
    (c.in_ok-push.ensures.items ∙ ap (λ (s : Stroke). c.loop-row.strokes.items ++ s ∷ []) (c.stroke_of.ensures ∙ ap (λ (k : ℕ). stroke_of a.receiver x k row) labels))

pub returns : goal.returns
returns c =
    rows_all c.args.receiver (count_of c.args.counts.now) c.args.list.now c.loop-row.row c.args.strokes.now.items c.loop-row.strokes.items (let l = c.loop-row-test.false in omega arith) c.loop-row.invariant
