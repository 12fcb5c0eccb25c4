use Rattle.std.proofs.Common.{◌+◌, ◌∷◌, ◌++◌, [], refl, arith}
use Rattle.codec.proofs.ProgramLemmas.{read_more, first_fault_here}
use Rattle.codec.proofs.decoder.first_fault_of.Goals as goal

pub loop-unit-preserved : goal.loop-unit-preserved
loop-unit-preserved c = (
  c.loop-unit.invariant.0 ++ c.in-Ok.insn ∷ [],
  read_more c.args.bytes.now c.loop-unit.invariant.0 (c.loop-unit.invariant.0 ++ c.in-Ok.insn ∷ []) c.loop-unit.unit (c.loop-unit.unit + c.units.result) c.args.units c.in-Ok.insn _
      c.requires.whole c.loop-unit.invariant.1 refl c.in-Ok.ensures.well_formed c.in-Ok.ensures.inside c.in-Ok.ensures.found
      refl (omega (arith, c.units.ensures.units)),
)

pub returns-in-Err : goal.returns-in-Err
returns-in-Err c =
    first_fault_here c.args.bytes.now c.loop-unit.invariant.0 c.loop-unit.unit c.args.units _ c.in-Err.fault
    c.requires.whole c.requires.some c.requires.bound c.loop-unit-test.true c.loop-unit.invariant.1 refl c.in-Err.ensures.fault
