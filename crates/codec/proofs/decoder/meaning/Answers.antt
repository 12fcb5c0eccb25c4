use Rattle.std.proofs.Common.{drop, refl}
use Rattle.codec.specs.declared.form.Form.TheVariants as forms
use Rattle.codec.proofs.DecodingLemmas.{one_unit, two_units, form_fault}
use Rattle.codec.proofs.ProgramLemmas.{tail_is}
use Rattle.codec.proofs.decoder.meaning.Goals as goal

pub returns-in-Immediate-clause-found : goal.returns-in-Immediate-clause-found
returns-in-Immediate-clause-found c =
    one_unit c.put.result c.immediate.result c.put.new.place c.read_fields-in-Immediate.result c.args.bytes.now c.read_fields-in-Immediate.ensures c.put.ensures c.immediate.ensures.found

pub returns-in-Immediate-clause-fault : goal.returns-in-Immediate-clause-fault
returns-in-Immediate-clause-fault c =
    form_fault (forms.Immediate c.in-Immediate.width c.in-Immediate.operation) c.form_at.result.now c.put.result c.immediate.result c.put.new.place c.read_fields.result c.read_fields-in-Immediate.result (drop 8 c.args.bytes.now) c.args.bytes.now c.in-Immediate.is c.form_at.ensures.form c.read_fields.ensures c.read_fields-in-Immediate.ensures refl c.put.ensures (c.immediate.ensures.fault (drop 8 c.args.bytes.now))

pub returns-in-Register-clause-found : goal.returns-in-Register-clause-found
returns-in-Register-clause-found c =
    one_unit c.put-in-Register.result c.register.result c.put-in-Register.new.place c.read_fields-in-Register.result c.args.bytes.now c.read_fields-in-Register.ensures c.put-in-Register.ensures c.register.ensures.found

pub returns-in-Register-clause-fault : goal.returns-in-Register-clause-fault
returns-in-Register-clause-fault c =
    form_fault (forms.Register c.in-Register.width c.in-Register.operation) c.form_at.result.now c.put-in-Register.result c.register.result c.put-in-Register.new.place c.read_fields.result c.read_fields-in-Register.result (drop 8 c.args.bytes.now) c.args.bytes.now c.in-Register.is c.form_at.ensures.form c.read_fields.ensures c.read_fields-in-Register.ensures refl c.put-in-Register.ensures (c.register.ensures.fault (drop 8 c.args.bytes.now))

pub returns-in-DivideImmediate-clause-found : goal.returns-in-DivideImmediate-clause-found
returns-in-DivideImmediate-clause-found c =
    one_unit c.put-in-DivideImmediate.result c.divide_immediate.result c.put-in-DivideImmediate.new.place c.read_fields-in-DivideImmediate.result c.args.bytes.now c.read_fields-in-DivideImmediate.ensures c.put-in-DivideImmediate.ensures c.divide_immediate.ensures.found

pub returns-in-DivideImmediate-clause-fault : goal.returns-in-DivideImmediate-clause-fault
returns-in-DivideImmediate-clause-fault c =
    form_fault (forms.DivideImmediate c.in-DivideImmediate.width c.in-DivideImmediate.division) c.form_at.result.now c.put-in-DivideImmediate.result c.divide_immediate.result c.put-in-DivideImmediate.new.place c.read_fields.result c.read_fields-in-DivideImmediate.result (drop 8 c.args.bytes.now) c.args.bytes.now c.in-DivideImmediate.is c.form_at.ensures.form c.read_fields.ensures c.read_fields-in-DivideImmediate.ensures refl c.put-in-DivideImmediate.ensures (c.divide_immediate.ensures.fault (drop 8 c.args.bytes.now))

pub returns-in-DivideRegister-clause-found : goal.returns-in-DivideRegister-clause-found
returns-in-DivideRegister-clause-found c =
    one_unit c.put-in-DivideRegister.result c.divide_register.result c.put-in-DivideRegister.new.place c.read_fields-in-DivideRegister.result c.args.bytes.now c.read_fields-in-DivideRegister.ensures c.put-in-DivideRegister.ensures c.divide_register.ensures.found

pub returns-in-DivideRegister-clause-fault : goal.returns-in-DivideRegister-clause-fault
returns-in-DivideRegister-clause-fault c =
    form_fault (forms.DivideRegister c.in-DivideRegister.width c.in-DivideRegister.division) c.form_at.result.now c.put-in-DivideRegister.result c.divide_register.result c.put-in-DivideRegister.new.place c.read_fields.result c.read_fields-in-DivideRegister.result (drop 8 c.args.bytes.now) c.args.bytes.now c.in-DivideRegister.is c.form_at.ensures.form c.read_fields.ensures c.read_fields-in-DivideRegister.ensures refl c.put-in-DivideRegister.ensures (c.divide_register.ensures.fault (drop 8 c.args.bytes.now))

pub returns-in-MoveRegister-clause-found : goal.returns-in-MoveRegister-clause-found
returns-in-MoveRegister-clause-found c =
    one_unit c.put-in-MoveRegister.result c.move_register.result c.put-in-MoveRegister.new.place c.read_fields-in-MoveRegister.result c.args.bytes.now c.read_fields-in-MoveRegister.ensures c.put-in-MoveRegister.ensures c.move_register.ensures.found

pub returns-in-MoveRegister-clause-fault : goal.returns-in-MoveRegister-clause-fault
returns-in-MoveRegister-clause-fault c =
    form_fault (forms.MoveRegister c.in-MoveRegister.width) c.form_at.result.now c.put-in-MoveRegister.result c.move_register.result c.put-in-MoveRegister.new.place c.read_fields.result c.read_fields-in-MoveRegister.result (drop 8 c.args.bytes.now) c.args.bytes.now c.in-MoveRegister.is c.form_at.ensures.form c.read_fields.ensures c.read_fields-in-MoveRegister.ensures refl c.put-in-MoveRegister.ensures (c.move_register.ensures.fault (drop 8 c.args.bytes.now))

pub returns-in-Negate-clause-found : goal.returns-in-Negate-clause-found
returns-in-Negate-clause-found c =
    one_unit c.put-in-Negate.result c.negate.result c.put-in-Negate.new.place c.read_fields-in-Negate.result c.args.bytes.now c.read_fields-in-Negate.ensures c.put-in-Negate.ensures c.negate.ensures.found

pub returns-in-Negate-clause-fault : goal.returns-in-Negate-clause-fault
returns-in-Negate-clause-fault c =
    form_fault (forms.Negate c.in-Negate.width) c.form_at.result.now c.put-in-Negate.result c.negate.result c.put-in-Negate.new.place c.read_fields.result c.read_fields-in-Negate.result (drop 8 c.args.bytes.now) c.args.bytes.now c.in-Negate.is c.form_at.ensures.form c.read_fields.ensures c.read_fields-in-Negate.ensures refl c.put-in-Negate.ensures (c.negate.ensures.fault (drop 8 c.args.bytes.now))

pub returns-in-Swap-clause-found : goal.returns-in-Swap-clause-found
returns-in-Swap-clause-found c =
    one_unit c.put-in-Swap.result c.swap.result c.put-in-Swap.new.place c.read_fields-in-Swap.result c.args.bytes.now c.read_fields-in-Swap.ensures c.put-in-Swap.ensures c.swap.ensures.found

pub returns-in-Swap-clause-fault : goal.returns-in-Swap-clause-fault
returns-in-Swap-clause-fault c =
    form_fault (forms.Swap c.in-Swap.order) c.form_at.result.now c.put-in-Swap.result c.swap.result c.put-in-Swap.new.place c.read_fields.result c.read_fields-in-Swap.result (drop 8 c.args.bytes.now) c.args.bytes.now c.in-Swap.is c.form_at.ensures.form c.read_fields.ensures c.read_fields-in-Swap.ensures refl c.put-in-Swap.ensures (c.swap.ensures.fault (drop 8 c.args.bytes.now))

pub returns-in-LoadImmediate-clause-found : goal.returns-in-LoadImmediate-clause-found
returns-in-LoadImmediate-clause-found c =
    two_units c.put-in-LoadImmediate.result c.load_immediate.result c.put-in-LoadImmediate.new.place c.read_fields-in-LoadImmediate.result _ c.args.bytes.now c.read_fields-in-LoadImmediate.ensures (tail_is c.args.bytes.now 8) c.put-in-LoadImmediate.ensures c.load_immediate.ensures.found

pub returns-in-LoadImmediate-clause-fault : goal.returns-in-LoadImmediate-clause-fault
returns-in-LoadImmediate-clause-fault c =
    form_fault forms.LoadImmediate c.form_at.result.now c.put-in-LoadImmediate.result c.load_immediate.result c.put-in-LoadImmediate.new.place c.read_fields.result c.read_fields-in-LoadImmediate.result _ c.args.bytes.now c.in-LoadImmediate.is c.form_at.ensures.form c.read_fields.ensures c.read_fields-in-LoadImmediate.ensures (tail_is c.args.bytes.now 8) c.put-in-LoadImmediate.ensures c.load_immediate.ensures.fault

pub returns-in-Jump-clause-found : goal.returns-in-Jump-clause-found
returns-in-Jump-clause-found c =
    one_unit c.put-in-Jump.result c.near.result c.put-in-Jump.new.place c.read_fields-in-Jump.result c.args.bytes.now c.read_fields-in-Jump.ensures c.put-in-Jump.ensures c.near.ensures.found

pub returns-in-Jump-clause-fault : goal.returns-in-Jump-clause-fault
returns-in-Jump-clause-fault c =
    form_fault forms.Jump c.form_at.result.now c.put-in-Jump.result c.near.result c.put-in-Jump.new.place c.read_fields.result c.read_fields-in-Jump.result (drop 8 c.args.bytes.now) c.args.bytes.now c.in-Jump.is c.form_at.ensures.form c.read_fields.ensures c.read_fields-in-Jump.ensures refl c.put-in-Jump.ensures (c.near.ensures.fault (drop 8 c.args.bytes.now))

pub returns-in-LongJump-clause-found : goal.returns-in-LongJump-clause-found
returns-in-LongJump-clause-found c =
    one_unit c.put-in-LongJump.result c.long.result c.put-in-LongJump.new.place c.read_fields-in-LongJump.result c.args.bytes.now c.read_fields-in-LongJump.ensures c.put-in-LongJump.ensures c.long.ensures.found

pub returns-in-LongJump-clause-fault : goal.returns-in-LongJump-clause-fault
returns-in-LongJump-clause-fault c =
    form_fault forms.LongJump c.form_at.result.now c.put-in-LongJump.result c.long.result c.put-in-LongJump.new.place c.read_fields.result c.read_fields-in-LongJump.result (drop 8 c.args.bytes.now) c.args.bytes.now c.in-LongJump.is c.form_at.ensures.form c.read_fields.ensures c.read_fields-in-LongJump.ensures refl c.put-in-LongJump.ensures (c.long.ensures.fault (drop 8 c.args.bytes.now))

pub returns-in-BranchImmediate-clause-found : goal.returns-in-BranchImmediate-clause-found
returns-in-BranchImmediate-clause-found c =
    one_unit c.put-in-BranchImmediate.result c.branch_immediate.result c.put-in-BranchImmediate.new.place c.read_fields-in-BranchImmediate.result c.args.bytes.now c.read_fields-in-BranchImmediate.ensures c.put-in-BranchImmediate.ensures c.branch_immediate.ensures.found

pub returns-in-BranchImmediate-clause-fault : goal.returns-in-BranchImmediate-clause-fault
returns-in-BranchImmediate-clause-fault c =
    form_fault (forms.BranchImmediate c.in-BranchImmediate.width c.in-BranchImmediate.condition) c.form_at.result.now c.put-in-BranchImmediate.result c.branch_immediate.result c.put-in-BranchImmediate.new.place c.read_fields.result c.read_fields-in-BranchImmediate.result (drop 8 c.args.bytes.now) c.args.bytes.now c.in-BranchImmediate.is c.form_at.ensures.form c.read_fields.ensures c.read_fields-in-BranchImmediate.ensures refl c.put-in-BranchImmediate.ensures (c.branch_immediate.ensures.fault (drop 8 c.args.bytes.now))

pub returns-in-BranchRegister-clause-found : goal.returns-in-BranchRegister-clause-found
returns-in-BranchRegister-clause-found c =
    one_unit c.put-in-BranchRegister.result c.branch_register.result c.put-in-BranchRegister.new.place c.read_fields-in-BranchRegister.result c.args.bytes.now c.read_fields-in-BranchRegister.ensures c.put-in-BranchRegister.ensures c.branch_register.ensures.found

pub returns-in-BranchRegister-clause-fault : goal.returns-in-BranchRegister-clause-fault
returns-in-BranchRegister-clause-fault c =
    form_fault (forms.BranchRegister c.in-BranchRegister.width c.in-BranchRegister.condition) c.form_at.result.now c.put-in-BranchRegister.result c.branch_register.result c.put-in-BranchRegister.new.place c.read_fields.result c.read_fields-in-BranchRegister.result (drop 8 c.args.bytes.now) c.args.bytes.now c.in-BranchRegister.is c.form_at.ensures.form c.read_fields.ensures c.read_fields-in-BranchRegister.ensures refl c.put-in-BranchRegister.ensures (c.branch_register.ensures.fault (drop 8 c.args.bytes.now))

pub returns-in-Load-clause-found : goal.returns-in-Load-clause-found
returns-in-Load-clause-found c =
    one_unit c.put-in-Load.result c.load.result c.put-in-Load.new.place c.read_fields-in-Load.result c.args.bytes.now c.read_fields-in-Load.ensures c.put-in-Load.ensures c.load.ensures.found

pub returns-in-Load-clause-fault : goal.returns-in-Load-clause-fault
returns-in-Load-clause-fault c =
    form_fault (forms.Load c.in-Load.size) c.form_at.result.now c.put-in-Load.result c.load.result c.put-in-Load.new.place c.read_fields.result c.read_fields-in-Load.result (drop 8 c.args.bytes.now) c.args.bytes.now c.in-Load.is c.form_at.ensures.form c.read_fields.ensures c.read_fields-in-Load.ensures refl c.put-in-Load.ensures (c.load.ensures.fault (drop 8 c.args.bytes.now))

pub returns-in-LoadSigned-clause-found : goal.returns-in-LoadSigned-clause-found
returns-in-LoadSigned-clause-found c =
    one_unit c.put-in-LoadSigned.result c.load_signed.result c.put-in-LoadSigned.new.place c.read_fields-in-LoadSigned.result c.args.bytes.now c.read_fields-in-LoadSigned.ensures c.put-in-LoadSigned.ensures c.load_signed.ensures.found

pub returns-in-LoadSigned-clause-fault : goal.returns-in-LoadSigned-clause-fault
returns-in-LoadSigned-clause-fault c =
    form_fault (forms.LoadSigned c.in-LoadSigned.part) c.form_at.result.now c.put-in-LoadSigned.result c.load_signed.result c.put-in-LoadSigned.new.place c.read_fields.result c.read_fields-in-LoadSigned.result (drop 8 c.args.bytes.now) c.args.bytes.now c.in-LoadSigned.is c.form_at.ensures.form c.read_fields.ensures c.read_fields-in-LoadSigned.ensures refl c.put-in-LoadSigned.ensures (c.load_signed.ensures.fault (drop 8 c.args.bytes.now))

pub returns-in-StoreImmediate-clause-found : goal.returns-in-StoreImmediate-clause-found
returns-in-StoreImmediate-clause-found c =
    one_unit c.put-in-StoreImmediate.result c.store_immediate.result c.put-in-StoreImmediate.new.place c.read_fields-in-StoreImmediate.result c.args.bytes.now c.read_fields-in-StoreImmediate.ensures c.put-in-StoreImmediate.ensures c.store_immediate.ensures.found

pub returns-in-StoreImmediate-clause-fault : goal.returns-in-StoreImmediate-clause-fault
returns-in-StoreImmediate-clause-fault c =
    form_fault (forms.StoreImmediate c.in-StoreImmediate.size) c.form_at.result.now c.put-in-StoreImmediate.result c.store_immediate.result c.put-in-StoreImmediate.new.place c.read_fields.result c.read_fields-in-StoreImmediate.result (drop 8 c.args.bytes.now) c.args.bytes.now c.in-StoreImmediate.is c.form_at.ensures.form c.read_fields.ensures c.read_fields-in-StoreImmediate.ensures refl c.put-in-StoreImmediate.ensures (c.store_immediate.ensures.fault (drop 8 c.args.bytes.now))

pub returns-in-StoreRegister-clause-found : goal.returns-in-StoreRegister-clause-found
returns-in-StoreRegister-clause-found c =
    one_unit c.put-in-StoreRegister.result c.store_register.result c.put-in-StoreRegister.new.place c.read_fields-in-StoreRegister.result c.args.bytes.now c.read_fields-in-StoreRegister.ensures c.put-in-StoreRegister.ensures c.store_register.ensures.found

pub returns-in-StoreRegister-clause-fault : goal.returns-in-StoreRegister-clause-fault
returns-in-StoreRegister-clause-fault c =
    form_fault (forms.StoreRegister c.in-StoreRegister.size) c.form_at.result.now c.put-in-StoreRegister.result c.store_register.result c.put-in-StoreRegister.new.place c.read_fields.result c.read_fields-in-StoreRegister.result (drop 8 c.args.bytes.now) c.args.bytes.now c.in-StoreRegister.is c.form_at.ensures.form c.read_fields.ensures c.read_fields-in-StoreRegister.ensures refl c.put-in-StoreRegister.ensures (c.store_register.ensures.fault (drop 8 c.args.bytes.now))

pub returns-in-Call-clause-found : goal.returns-in-Call-clause-found
returns-in-Call-clause-found c =
    one_unit c.put-in-Call.result c.call.result c.put-in-Call.new.place c.read_fields-in-Call.result c.args.bytes.now c.read_fields-in-Call.ensures c.put-in-Call.ensures c.call.ensures.found

pub returns-in-Call-clause-fault : goal.returns-in-Call-clause-fault
returns-in-Call-clause-fault c =
    form_fault forms.Call c.form_at.result.now c.put-in-Call.result c.call.result c.put-in-Call.new.place c.read_fields.result c.read_fields-in-Call.result (drop 8 c.args.bytes.now) c.args.bytes.now c.in-Call.is c.form_at.ensures.form c.read_fields.ensures c.read_fields-in-Call.ensures refl c.put-in-Call.ensures (c.call.ensures.fault (drop 8 c.args.bytes.now))

pub returns-in-Exit-clause-found : goal.returns-in-Exit-clause-found
returns-in-Exit-clause-found c =
    one_unit c.put-in-Exit.result c.exit.result c.put-in-Exit.new.place c.read_fields-in-Exit.result c.args.bytes.now c.read_fields-in-Exit.ensures c.put-in-Exit.ensures c.exit.ensures.found

pub returns-in-Exit-clause-fault : goal.returns-in-Exit-clause-fault
returns-in-Exit-clause-fault c =
    form_fault forms.Exit c.form_at.result.now c.put-in-Exit.result c.exit.result c.put-in-Exit.new.place c.read_fields.result c.read_fields-in-Exit.result (drop 8 c.args.bytes.now) c.args.bytes.now c.in-Exit.is c.form_at.ensures.form c.read_fields.ensures c.read_fields-in-Exit.ensures refl c.put-in-Exit.ensures (c.exit.ensures.fault (drop 8 c.args.bytes.now))
