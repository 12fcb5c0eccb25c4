use Rattle.std.specs.Prelude.{codes}
use Rattle.std.specs.Fmt.{decimal}
use Rattle.std.specs.String.{string_bytes}
use Rattle.std.proofs.Common.{append_assoc, ◌≡◌, ◌++◌, ◌∙◌, ap}
use Rattle.std.proofs.lemmas.Result.{IfOk-weaker}
use Rattle.book.proofs.writer.first_line.Goals as goal

pub returns : goal.returns
returns c =
    IfOk-weaker c.format.result _ _
    (λ s h.
    let k : string_bytes s ≡ (codes "generals " ++ decimal c.args.generals ++ codes " bound " ++ decimal c.args.bound ++ codes " commander " ++ decimal c.args.commander ++ c.as_str-rule.result.now ++ codes "\n") = simp append_assoc h in
    k ∙ ap (λ words. codes "generals " ++ decimal c.args.generals ++ codes " bound " ++ decimal c.args.bound ++ codes " commander " ++ decimal c.args.commander ++ words ++ codes "\n") (c.as_str-rule.ensures.value ∙ c.in_ok-words.ensures))
    c.format.ensures.ok
