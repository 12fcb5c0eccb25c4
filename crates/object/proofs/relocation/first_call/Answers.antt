use Rattle.std.proofs.Common.{length, ◌/◌, arith}
use Rattle.object.proofs.FirstLemmas.{nothing_yet, nothing_more, found_first, nothing_left}
use Rattle.object.specs.Relocation.{call_fault}
use Rattle.object.proofs.relocation.first_call.Goals as goal

pub loop-unit-init : goal.loop-unit-init
loop-unit-init c = nothing_yet (call_fault c.args.code.now)

pub loop-unit-preserved : goal.loop-unit-preserved
loop-unit-preserved c = nothing_more (call_fault c.args.code.now) c.loop-unit.unit c.loop-unit.invariant c.in-None.ensures

pub returns-in-Some : goal.returns-in-Some
returns-in-Some c = found_first (call_fault c.args.code.now) (length c.args.code.now / 8) c.loop-unit.unit c.in-Some.fault (omega arith) c.loop-unit.invariant c.in-Some.ensures

pub returns : goal.returns
returns c = nothing_left (call_fault c.args.code.now) (length c.args.code.now / 8) c.loop-unit.unit (omega arith) c.loop-unit.invariant
