use Rattle.std.proofs.Common.{◌≡◌, ◌∙◌, Some, length, sym, refl, add-one}
use Rattle.std.specs.Prelude.{slice_get}
use Rattle.std.proofs.lemmas.Bool.{ne_eqb}
use Rattle.std.proofs.lemmas.Option.{slice_get_read}
use Rattle.book.proofs.Hearing.{heard_at, none_more}
use Rattle.book.proofs.trees.heard.Goals as goal

pub returns-then-space-receiver : goal.returns-then-space-receiver
returns-then-space-receiver c =
    let at : slice_get c.args.trees.now c.loop-tree.tree-index ≡ Some c.tree-item.result = slice_get_read c.args.trees.now (length c.args.trees.now) c.loop-tree.tree-index c.tree-item.result refl c.loop-tree-test.true c.tree-item.is in
    c.value.ensures ∙ sym (heard_at c.args.trees.now c.args.label.now c.args.receiver c.loop-tree.tree-index c.tree-item.result c.loop-tree.invariant at (sym c.space.ensures.general ∙ c.if-space-receiver.true))

pub loop-tree-preserved : goal.loop-tree-preserved
loop-tree-preserved c =
    let at : slice_get c.args.trees.now c.loop-tree.tree-index ≡ Some c.tree-item.result = slice_get_read c.args.trees.now (length c.args.trees.now) c.loop-tree.tree-index c.tree-item.result refl c.loop-tree-test.true c.tree-item.is in
    rw add-one (none_more c.args.receiver c.args.trees.now c.loop-tree.tree-index c.tree-item.result c.loop-tree.invariant at (ne_eqb c.tree-item.result.general c.args.receiver (λ e. c.if-space-receiver.false (c.space.ensures.general ∙ e))))
