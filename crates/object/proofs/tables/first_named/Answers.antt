use Rattle.std.proofs.Common.{arith}
use Rattle.object.proofs.FirstLemmas.{nothing_yet, nothing_more, found_first, nothing_left}
use Rattle.object.specs.Tables.{named_here}
use Rattle.object.proofs.tables.first_named.Goals as goal

pub loop-index-init : goal.loop-index-init
loop-index-init c = nothing_yet (named_here c.args.table.now c.args.names.now c.args.name.now)

pub loop-index-preserved : goal.loop-index-preserved
loop-index-preserved c = nothing_more (named_here c.args.table.now c.args.names.now c.args.name.now) c.loop-index.index c.loop-index.invariant c.in-None.ensures.here

pub returns-in-Some-clause-first : goal.returns-in-Some-clause-first
returns-in-Some-clause-first c = found_first (named_here c.args.table.now c.args.names.now c.args.name.now) (c.args.count) c.loop-index.index c.in-Some.found (omega arith) c.loop-index.invariant c.in-Some.ensures.here

pub returns-clause-first : goal.returns-clause-first
returns-clause-first c = nothing_left (named_here c.args.table.now c.args.names.now c.args.name.now) (c.args.count) c.loop-index.index (omega arith) c.loop-index.invariant
