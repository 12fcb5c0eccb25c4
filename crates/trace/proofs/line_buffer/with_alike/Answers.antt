use Rattle.std.proofs.Common.{◌++◌, ◌∷◌, ◌∙◌, take, ap, sym}
use Rattle.std.proofs.lemmas.Fmt.{decimal_digit}
use Rattle.trace.specs.Text.{place}
use Rattle.trace.specs.Lines.{repeated}
use Rattle.trace.proofs.line_buffer.with_alike.Goals as goal

pub returns-in-Some-clause-bytes : goal.returns-in-Some-clause-bytes
returns-in-Some-clause-bytes c =
    c.with_signs-in-Some.ensures.bytes
    ∙ ap (λ t. take c.args.count c.args.bytes.now ++ repeated c.args.times (32 ∷ t)) (sym (decimal_digit c.in-Some.order c.if-order-lt10.true) ∙ ap place (sym c.in-Some.is))
