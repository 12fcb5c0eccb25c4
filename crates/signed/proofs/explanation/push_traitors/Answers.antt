use Rattle.std.proofs.Common.{append_assoc, ◌≡◌, ◌++◌}
use Rattle.std.specs.Prelude.{codes}
use Rattle.std.specs.Fmt.{decimal}
use Rattle.std.specs.String.{string_bytes}
use Rattle.std.proofs.lemmas.Result.{on_ok_weaker}
use Rattle.signed.proofs.VerdictLines.{traitors_whole}
use Rattle.signed.proofs.explanation.push_traitors.Goals as goal

pub returns : goal.returns
returns c =
    on_ok_weaker c.write.result
    (λ e.
    let k : string_bytes c.write.new.self ≡ string_bytes c.args.lines.now ++ (codes "bound " ++ c.yes_no-so.result.now ++ codes ": " ++ decimal c.traitors-traitors.result ++ codes " traitors, " ++ c.few_words-few.result.now ++ decimal c.bound-bound.result ++ codes "\n") = simp append_assoc e in
    traitors_whole c.args.scenario.now c.args.holds (string_bytes c.args.lines.now) (string_bytes c.write.new.self) c.yes_no-so.result.now c.few_words-few.result.now c.traitors-traitors.result c.bound-bound.result
    c.yes_no-so.ensures c.few_words-few.ensures c.traitors-traitors.ensures c.bound-bound.ensures.same k)
    c.write.ensures.bytes
