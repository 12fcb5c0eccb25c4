use Rattle.verify.proofs.StructureLemmas.{jumps_some, jumps_none}
use Rattle.verify.proofs.structure.find_fault.Goals as goal

pub returns-in-Some : goal.returns-in-Some
returns-in-Some c = jumps_some c.args.program.now c.first_jump_fault.result c.in-Some.fault c.first_jump_fault.ensures c.in-Some.is

pub returns : goal.returns
returns c = jumps_none c.args.program.now c.first_jump_fault.result c.last_fault.result c.first_jump_fault.ensures c.in_default.is c.last_fault.ensures
