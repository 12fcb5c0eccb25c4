use Rattle.std.proofs.Common.{◌∙◌, ap, sym, w16}
use Rattle.std.proofs.lemmas.Int.{to_z-of_z}
use Rattle.insn.specs.declared.insn.Operand.{Operand}
use Rattle.verify.specs.Registers.{known_at, operand_known}
use Rattle.verify.proofs.StepReasons.{store_left, number_left}
use Rattle.verify.proofs.steps.store.Goals as goal

pub returns-in-Register : goal.returns-in-Register
returns-in-Register c =
    let registers = c.args.state.now.registers in
    store_left c.args.size c.at-pointer.result.now (known_at registers c.args.base) c.at-value.result.now (operand_known registers c.args.source) _ c.args.offset
    c.args.state.now c.store_value.result c.store_value.new.stack c.at-pointer.ensures
    (c.at-value.ensures ∙ ap (λ (operand : Operand). operand_known registers operand) (sym c.in-Register.is))
    (to_z-of_z w16 c.args.offset c.ranges.offset) c.store_value.ensures

pub returns-in_ok-found-in-Immediate : goal.returns-in_ok-found-in-Immediate
returns-in_ok-found-in-Immediate c =
    let registers = c.args.state.now.registers in
    number_left c.args.size c.at-pointer.result.now (known_at registers c.args.base) (operand_known registers c.args.source) c.in_ok-found-in-Immediate.found _ c.args.offset c.in-Immediate.field-0
    c.args.state.now c.store_number.result c.store_number.new.stack c.at-pointer.ensures (ap (λ (operand : Operand). operand_known registers operand) c.in-Immediate.is)
    c.in_ok-found-in-Immediate.ensures (to_z-of_z w16 c.args.offset c.ranges.offset) c.store_number.ensures
