use Rattle.std.specs.Prelude.{slice_get}
use Rattle.reaching.proofs.ColumnLemmas.{way_so}
use Rattle.reaching.proofs.flow.way_at.Goals as goal

pub returns : goal.returns
returns c =
    way_so c.args.program.now (slice_get c.args.states.now) c.args.ways.now c.args.unit _ _ c.requires.inside c.requires.ways c.way_in.ensures
