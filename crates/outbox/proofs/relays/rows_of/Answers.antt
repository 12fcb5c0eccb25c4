-- The commander has one row in round 1 and none later.
use Rattle.std.proofs.Common.{◌∷◌, ◌++◌, [], ap, ◌∙◌}
use Rattle.outbox.proofs.RowByRow.{one_row, no_row}
use Rattle.outbox.proofs.relays.rows_of.Goals as goal
use Rattle.outbox.proofs.relays.rows_of.Goals.{then-shape-eq1+in_ok-push, else-shape-eq1}

pub returns : goal.returns
returns c =
    elim c.if-shape-eq1.branch [
      | then-shape-eq1+in_ok-push w ↦
          rw w.rows-is (one_row c.args.shape w.push.new.self.items w.hearing.result w.new.result c.if-shape.false w.if-shape-eq1.true w.hearing.ensures w.new.ensures
          (w.in_ok-push.ensures.items ∙ ap (λ rows. rows ++ w.new.result ∷ []) c.new-rows.ensures.items))
      | else-shape-eq1 w ↦ rw w.rows-is (c.new-rows.ensures.items ∙ no_row c.args.shape c.if-shape.false w.if-shape-eq1.false)
    ]
