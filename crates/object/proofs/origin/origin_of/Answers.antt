use Rattle.std.proofs.Common.{length, ◌/◌, arith}
use Rattle.object.proofs.FirstLemmas.{nothing_yet, nothing_more, found_first, nothing_left}
use Rattle.object.specs.Origin.{origin_here}
use Rattle.object.proofs.origin.origin_of.Goals as goal

pub loop-index-init : goal.loop-index-init
loop-index-init c = nothing_yet (origin_here c.args.bytes.now c.args.symbols.now c.args.section c.args.size c.args.relocations.now c.args.place)

pub loop-index-preserved : goal.loop-index-preserved
loop-index-preserved c = nothing_more (origin_here c.args.bytes.now c.args.symbols.now c.args.section c.args.size c.args.relocations.now c.args.place) c.loop-index.index c.loop-index.invariant c.in-None.ensures

pub returns-in-Some : goal.returns-in-Some
returns-in-Some c = found_first (origin_here c.args.bytes.now c.args.symbols.now c.args.section c.args.size c.args.relocations.now c.args.place) (length c.args.relocations.now / c.args.size) c.loop-index.index c.in-Some.address (omega arith) c.loop-index.invariant c.in-Some.ensures

pub returns : goal.returns
returns c = nothing_left (origin_here c.args.bytes.now c.args.symbols.now c.args.section c.args.size c.args.relocations.now c.args.place) (length c.args.relocations.now / c.args.size) c.loop-index.index (omega arith) c.loop-index.invariant
