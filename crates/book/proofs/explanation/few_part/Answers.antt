use Rattle.std.specs.Prelude.{codes}
use Rattle.std.specs.Fmt.{decimal}
use Rattle.std.specs.String.{string_bytes}
use Rattle.std.proofs.Common.{append_assoc, ◌≡◌, ◌++◌}
use Rattle.std.proofs.lemmas.Result.{IfOk-weaker}
use Rattle.book.proofs.TextLemmas.{few_is}
use Rattle.book.proofs.explanation.few_part.Goals as goal

pub returns : goal.returns
returns g c =
    IfOk-weaker c.format.result _ _
    (λ s h.
    let k : string_bytes s ≡ (codes "; " ++ decimal c.args.met.now.named ++ codes " named as traitors, " ++ c.few_words-few.result.now ++ decimal c.bound-bound.result ++ codes "\n") = simp append_assoc h in
    few_is (g.H.Heard.seen c.args.table.now) c.args.met.now (string_bytes s) c.few_words-few.result.now c.bound-bound.result c.few_words-few.ensures c.bound-bound.ensures.value k)
    c.format.ensures.ok
