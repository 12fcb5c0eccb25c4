use Rattle.std.proofs.Common.{◌≡◌, ◌++◌, ◌∙◌, ap, List}
use Rattle.std.specs.Borrow.{Bor}
use Rattle.std.specs.String.{string_bytes}
use Rattle.std.proofs.lemmas.Result.{on_ok_weaker}
use Rattle.book.specs.Explained.{head_line}
use Rattle.round.specs.Scenario.{Scenario, is_traitor}
use Rattle.signed.specs.Chains.{Chain}
use Rattle.signed.specs.Sending.{lent}
use Rattle.signed.proofs.VerdictLines.{acceptance_whole}
use Rattle.signed.proofs.explanation.push_lieutenant.Goals as goal

pub returns : goal.returns
returns c =
    let first : string_bytes c.write.new.self ≡ string_bytes c.args.lines.now ++ head_line c.args.general = c.in_ok-write.ensures.bytes in
    let listed = ap (λ (xs : List (Bor Chain)). lent xs) c.as_slice.ensures.value ∙ c.in_ok-chains.ensures in
    let again = ap (λ (xs : List (Bor Chain)). lent xs) c.as_slice-2.ensures.value ∙ c.in_ok-chains.ensures in
    let traitor = c.is_traitor.ensures ∙ ap (λ (s : Scenario). is_traitor s c.args.general) c.scenario-2.ensures in
    on_ok_weaker c.push_choice.result
    (λ e. acceptance_whole c.args.chronicle.now c.args.general (string_bytes c.args.lines.now) (string_bytes c.write.new.self) (string_bytes c.push_all_accepted.new.lines) (string_bytes c.push_choice.new.lines) (lent c.as_slice.result.now) (lent c.as_slice-2.result.now) c.is_traitor.result
    first c.in_ok-push_all_accepted.ensures listed again traitor e)
    c.push_choice.ensures
