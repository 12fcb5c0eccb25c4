use Rattle.std.proofs.Common.{◌∙◌}
use Rattle.codec.proofs.ProgramLaws.{whole_units, one_program, none_answered}
use Rattle.codec.proofs.decoder.decode.Goals as goal

pub returns-then-bytes-ne0-clause-only : goal.returns-then-bytes-ne0-clause-only
returns-then-bytes-ne0-clause-only c = λ p spelled. absurd (c.if-bytes-ne0.true (whole_units c.args.bytes.now p spelled))

pub returns-in_err-instructions-clause-only : goal.returns-in_err-instructions-clause-only
returns-in_err-instructions-clause-only c = λ p spelled.
    none_answered c.args.bytes.now p c.from_residual.result c.in_err-instructions.field-0.0 spelled c.in_err-instructions.ensures.fault c.from_residual.ensures.1

pub returns-clause-only : goal.returns-clause-only
returns-clause-only c = λ p spelled.
    c.in_ok-of_units.ensures ∙ one_program c.args.bytes.now c.in_ok-instructions.field-0.items p c.in_ok-instructions.ensures.found spelled
