use Rattle.std.specs.Prelude.{slice_get}
use Rattle.reaching.proofs.ColumnLemmas.{sets_so}
use Rattle.reaching.proofs.changes.sets_cell.Goals as goal

pub returns : goal.returns
returns c =
    sets_so c.args.program.now (slice_get c.args.states.now) c.args.stacks.now c.args.cell c.args.unit _ _ _ _ c.requires.inside c.requires.left c.known_by.ensures c.stack_at.ensures c.changed_in.ensures
