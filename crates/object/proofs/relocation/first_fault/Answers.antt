use Rattle.std.proofs.Common.{length, ◌/◌, arith}
use Rattle.object.proofs.FirstLemmas.{nothing_yet, nothing_more, found_first, nothing_left}
use Rattle.object.specs.Relocation.{relocation_fault}
use Rattle.object.proofs.relocation.first_fault.Goals as goal

pub loop-index-init : goal.loop-index-init
loop-index-init c = nothing_yet (relocation_fault c.args.table.now c.args.symbols.now c.args.function c.args.size c.args.relocations.now)

pub loop-index-preserved : goal.loop-index-preserved
loop-index-preserved c = nothing_more (relocation_fault c.args.table.now c.args.symbols.now c.args.function c.args.size c.args.relocations.now) c.loop-index.index c.loop-index.invariant c.in-None.ensures

pub returns-in-Some : goal.returns-in-Some
returns-in-Some c = found_first (relocation_fault c.args.table.now c.args.symbols.now c.args.function c.args.size c.args.relocations.now) (length c.args.relocations.now / c.args.size) c.loop-index.index c.in-Some.fault (omega arith) c.loop-index.invariant c.in-Some.ensures

pub returns : goal.returns
returns c = nothing_left (relocation_fault c.args.table.now c.args.symbols.now c.args.function c.args.size c.args.relocations.now) (length c.args.relocations.now / c.args.size) c.loop-index.index (omega arith) c.loop-index.invariant
