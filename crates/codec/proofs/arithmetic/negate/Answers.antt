use Rattle.std.proofs.Common.{◌∷◌, []}
use Rattle.codec.specs.declared.fault.CodecFault.TheVariants as faults
use Rattle.codec.specs.declared.form.Form.TheVariants as forms
use Rattle.codec.specs.Reading.{checks_of, is_set}
use Rattle.codec.proofs.DecodingLemmas.{handed_on}
use Rattle.codec.proofs.arithmetic.negate.Goals as goal

pub returns-in_err-dst-clause-fault : goal.returns-in_err-dst-clause-fault
returns-in_err-dst-clause-fault c = λ behind.
    handed_on c.from_residual.result c.in_err-dst.field-0.0 (checks_of (forms.Negate c.args.width) c.args.fields behind)
    c.from_residual.ensures.1 (c.in_err-dst.ensures.fault ((is_set c.args.fields.offset, faults.Reserved) ∷ (is_set c.args.fields.imm, faults.Reserved) ∷ []))
