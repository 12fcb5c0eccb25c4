use Rattle.show_tree.specs.Rows.{shape}
use Rattle.show_tree.proofs.rows.put_shape.Goals as goal

pub returns : goal.returns
unfolding shape
returns c = rw (← c.kind-kind.ensures, ← c.outcome_class-class.ensures, ← c.outline-outline.ensures) c.write.ensures.bytes
