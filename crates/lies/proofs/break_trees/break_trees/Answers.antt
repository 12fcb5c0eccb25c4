use Rattle.std.proofs.Common.{◌∷◌, [], ◌∙◌, ap, sym, map}
use Rattle.std.specs.Prelude.{◌==◌}
use Rattle.std.proofs.lemmas.Bool.{or_left, eq-eqb}
use Rattle.book.specs.Trees.{tree_of}
use Rattle.book.proofs.Steps.{others-more_no}
use Rattle.book.proofs.TreeLemmas.{tree_more}
use Rattle.lies.specs.BreakTrees.{messages_of}
use Rattle.lies.proofs.break_trees.break_trees.Goals as goal
use Rattle.lies.proofs.break_trees.break_trees.Goals.{then-general-commander+in_ok-break_tree+in_ok-push, else-general-commander}

pub loop-general-preserved : goal.loop-general-preserved
loop-general-preserved g c =
    elim c.if-general-commander.branch [
      | then-general-commander+in_ok-break_tree+in_ok-push w ↦
          ap (λ v. v.items) w.trees-is
          ∙ tree_more c.args.generals c.args.bound c.args.commander c.loop-general.general (messages_of (g.C.Combine.combined c.args.rule.now) c.args.generals c.args.bound c.args.commander c.args.found.now) c.loop-general.trees.items w.push.new.self.items w.in_ok-break_tree.field-0
          w.if-general-commander.true c.loop-general.invariant w.in_ok-break_tree.ensures w.in_ok-push.ensures.items
      | else-general-commander w ↦
          ap (λ v. v.items) w.trees-is
          ∙ (c.loop-general.invariant
          ∙ ap (map (tree_of c.args.generals c.args.bound c.args.commander (messages_of (g.C.Combine.combined c.args.rule.now) c.args.generals c.args.bound c.args.commander c.args.found.now)))
          (sym (others-more_no (c.args.commander ∷ []) c.loop-general.general (or_left (c.args.commander == c.loop-general.general) _ (eq-eqb c.args.commander c.loop-general.general (sym w.if-general-commander.false))))))
    ]
