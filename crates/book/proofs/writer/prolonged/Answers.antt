use Rattle.std.specs.Prelude.{codes}
use Rattle.std.specs.Fmt.{decimal}
use Rattle.std.specs.String.{string_bytes}
use Rattle.std.proofs.Common.{append_assoc, arith, ◌≡◌, ◌++◌, ◌∙◌, ap, sym}
use Rattle.std.proofs.lemmas.Result.{IfOk-weaker}
use Rattle.book.proofs.LabelNames.{dotted_more}
use Rattle.book.proofs.writer.prolonged.Goals as goal

pub returns : goal.returns
returns c =
    IfOk-weaker c.format.result _ _
    (λ s h.
    let k : string_bytes s ≡ (c.args.name.now ++ codes "." ++ decimal c.args.general) = simp append_assoc h in
    let some = c.len-generals.ensures.some in
    let value = c.len-generals.ensures.value in
    k ∙ (ap (λ name. name ++ codes "." ++ decimal c.args.general) c.requires ∙ sym (dotted_more c.args.label.now c.args.general (omega arith))))
    c.format.ensures.ok
