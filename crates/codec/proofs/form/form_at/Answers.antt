use Rattle.std.proofs.Common.{refl}
use Rattle.codec.proofs.FormRows.{row_form, row_opcode}
use Rattle.codec.proofs.form.form_at.Goals as goal

pub returns-clause-form : goal.returns-clause-form
returns-clause-form c = row_form _ c.args.opcode _ refl c.ranges.opcode.fits

pub returns-clause-opcode : goal.returns-clause-opcode
returns-clause-opcode c = row_opcode _ c.args.opcode _ refl c.ranges.opcode.fits
