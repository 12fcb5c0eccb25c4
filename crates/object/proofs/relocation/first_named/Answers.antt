use Rattle.std.proofs.Common.{arith}
use Rattle.object.proofs.FirstLemmas.{nothing_yet, nothing_more, found_first, nothing_left}
use Rattle.object.specs.Relocation.{relocations_fault}
use Rattle.object.proofs.relocation.first_named.Goals as goal

pub loop-index-init : goal.loop-index-init
loop-index-init c = nothing_yet (relocations_fault c.args.object.now c.args.table.now c.args.symbols.now c.args.function)

pub loop-index-preserved : goal.loop-index-preserved
loop-index-preserved c = nothing_more (relocations_fault c.args.object.now c.args.table.now c.args.symbols.now c.args.function) c.loop-index.index c.loop-index.invariant c.in-None.ensures

pub returns-in-Some : goal.returns-in-Some
returns-in-Some c = found_first (relocations_fault c.args.object.now c.args.table.now c.args.symbols.now c.args.function) c.args.count c.loop-index.index c.in-Some.fault (omega arith) c.loop-index.invariant c.in-Some.ensures

pub returns : goal.returns
returns c = nothing_left (relocations_fault c.args.object.now c.args.table.now c.args.symbols.now c.args.function) c.args.count c.loop-index.index (omega arith) c.loop-index.invariant
