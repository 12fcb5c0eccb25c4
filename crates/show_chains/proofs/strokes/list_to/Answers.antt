use Rattle.std.proofs.Common.{List, ◌≡◌, ◌∙◌, ap}
use Rattle.std.proofs.lemmas.Result.{IfOk-weaker}
use Rattle.show_diagram.specs.Order.{arranged}
use Rattle.show_chains.specs.Strokes.{Drawn, is_lie, numbered, sender, told_to}
use Rattle.show_chains.proofs.strokes.list_to.Goals as goal

pub returns : goal.returns
returns c =
    let a = c.args in
    let rows : c.in_ok-rows.rows.items ≡ arranged is_lie sender (told_to a.chronicle.now a.round a.receiver) = c.in_ok-rows.ensures ∙ ap (arranged is_lie sender) c.in_ok-told.ensures in
    IfOk-weaker c.numbered.result _ _ (λ v e. e ∙ ap (λ (xs : List Drawn). numbered xs 0) rows) c.numbered.ensures
