use Rattle.std.proofs.Common.{length, ◌-◌, arith}
use Rattle.object.proofs.FirstLemmas.{nothing_yet, nothing_more, found_first, nothing_left}
use Rattle.object.specs.Places.{row_here}
use Rattle.object.proofs.unit_places.row_of.Goals as goal

pub loop-index-init : goal.loop-index-init
loop-index-init c = nothing_yet (row_here c.args.rows.now c.args.address)

pub loop-index-preserved : goal.loop-index-preserved
loop-index-preserved c = nothing_more (row_here c.args.rows.now c.args.address) c.loop-index.index c.loop-index.invariant c.in-None.ensures

pub returns-in-Some : goal.returns-in-Some
returns-in-Some c = found_first (row_here c.args.rows.now c.args.address) (length c.args.rows.now - 1) c.loop-index.index c.in-Some.row (omega arith) c.loop-index.invariant c.in-Some.ensures

pub returns : goal.returns
returns c = nothing_left (row_here c.args.rows.now c.args.address) (length c.args.rows.now - 1) c.loop-index.index (omega arith) c.loop-index.invariant
