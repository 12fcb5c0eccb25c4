use Rattle.std.proofs.Common.{◌∙◌, ◌∷◌, [], refl, sym}
use Rattle.std.specs.Prelude.{◌==◌}
use Rattle.std.proofs.lemmas.Bool.{or_left, eq-eqb}
use Rattle.tree.specs.LieutenantTree.{silence}
use Rattle.book.specs.Table.{told}
use Rattle.book.proofs.Steps.{others-more_no}
use Rattle.book.proofs.TreeLemmas.{tree_is, tree_more, told_none}
use Rattle.book.proofs.table.Table.open.Goals as goal
use Rattle.book.proofs.table.Table.open.Goals.{then-general-commander+in_ok-new+in_ok-push, else-general-commander}

pub loop-general-preserved : goal.loop-general-preserved
loop-general-preserved c =
    elim c.if-general-commander.branch [
      | then-general-commander+in_ok-new+in_ok-push w ↦
          let numbers = w.in_ok-new.ensures.numbers in
          rw w.trees-is (tree_more c.args.generals c.args.bound c.args.commander c.loop-general.general (told []) c.loop-general.trees.items w.push.new.self.items w.in_ok-new.field-0 w.if-general-commander.true c.loop-general.invariant
          (tree_is w.in_ok-new.field-0 c.args.generals c.args.bound c.args.commander c.loop-general.general silence numbers.0 numbers.1 numbers.2 numbers.3 w.in_ok-new.ensures.silent ∙ told_none c.args.generals c.args.bound c.args.commander c.loop-general.general) w.in_ok-push.ensures.items)
      | else-general-commander w ↦
          rw (w.trees-is, c.loop-general.invariant, others-more_no (c.args.commander ∷ []) c.loop-general.general (or_left (c.args.commander == c.loop-general.general) _ (eq-eqb c.args.commander c.loop-general.general (sym w.if-general-commander.false)))) refl
    ]
