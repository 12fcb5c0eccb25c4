use Rattle.std.proofs.Common.{[]}
use Rattle.codec.specs.declared.form.Form.TheVariants as forms
use Rattle.codec.specs.Reading.{checks_of}
use Rattle.codec.proofs.DecodingLemmas.{handed_on}
use Rattle.codec.proofs.memory.store_immediate.Goals as goal

pub returns-in_err-base-clause-fault : goal.returns-in_err-base-clause-fault
returns-in_err-base-clause-fault c = λ behind.
    handed_on c.from_residual.result c.in_err-base.field-0.0 (checks_of (forms.StoreImmediate c.args.size) c.args.fields behind)
    c.from_residual.ensures.1 (c.in_err-base.ensures.fault [])
