use Rattle.std.specs.Prelude.{slice_get}
use Rattle.reaching.proofs.ColumnLemmas.{flow_more}
use Rattle.reaching.proofs.changes.setters_of.Goals as goal

pub loop-unit-preserved : goal.loop-unit-preserved
loop-unit-preserved c =
    flow_more c.args.program.now (slice_get c.args.states.now) c.args.cell c.loop-unit.unit _ _ _ _
    c.loop-unit.invariant c.way_at-way.ensures c.sets_cell-changed.ensures c.pass_on.ensures
