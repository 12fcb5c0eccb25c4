use Rattle.std.proofs.Common.{◌≡◌, ◌<◌, ◌∙◌, length, ap, sym, arith}
use Rattle.std.specs.Prelude.{is_some}
use Rattle.verify.proofs.StructureLemmas.{fault_found, fault_further, no_further}
use Rattle.verify.proofs.structure.first_jump_fault.Goals as goal

pub returns-then-has_fault : goal.returns-then-has_fault
returns-then-has_fault c =
    let inside : c.loop-index.index < length c.args.program.now = omega arith in
    fault_found c.args.program.now c.loop-index.index c.fault_of.result _ inside c.loop-index.invariant c.fault_of.ensures
    (ap is_some c.fault_of.ensures ∙ (sym c.has_fault.ensures ∙ c.if-has_fault.true))

pub loop-index-preserved : goal.loop-index-preserved
loop-index-preserved c =
    let inside : c.loop-index.index < length c.args.program.now = omega arith in
    fault_further c.args.program.now c.loop-index.index _ inside c.loop-index.invariant (sym c.if-has_fault.false ∙ c.has_fault.ensures)

pub returns : goal.returns
returns c =
    let end : c.loop-index.index ≡ length c.args.program.now = omega arith in
    no_further c.args.program.now c.loop-index.index _ end c.loop-index.invariant
