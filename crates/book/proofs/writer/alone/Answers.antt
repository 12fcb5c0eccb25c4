use Rattle.std.proofs.Common.{◌∙◌, sym}
use Rattle.std.proofs.lemmas.Result.{IfOk-weaker}
use Rattle.book.proofs.LabelNames.{dotted_one}
use Rattle.book.proofs.writer.alone.Goals as goal

pub returns : goal.returns
returns c = IfOk-weaker c.format.result _ _ (λ s h. h ∙ sym (dotted_one c.args.general)) c.format.ensures.ok
