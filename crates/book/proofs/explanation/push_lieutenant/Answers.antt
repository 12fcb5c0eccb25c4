use Rattle.std.proofs.Common.{◌≡◌, ◌++◌, ◌∙◌, ◌∷◌, [], ap}
use Rattle.std.specs.String.{string_bytes}
use Rattle.std.proofs.lemmas.Result.{on_ok_weaker}
use Rattle.book.specs.Explained.{head_line}
use Rattle.book.proofs.ListLemmas.{held_decides}
use Rattle.book.proofs.TextLemmas.{lieutenant_whole}
use Rattle.book.proofs.explanation.push_lieutenant.Goals as goal

pub returns : goal.returns
returns g c =
    let first : string_bytes c.write.new.self ≡ string_bytes c.args.lines.now ++ head_line c.args.general = c.in_ok-write.ensures.bytes in
    let label = c.of-label.ensures ∙ ap (λ x. x ∷ []) c.commander-commander.ensures.value in
    let decided = held_decides (g.H.Heard.seen c.args.table.now) c.bound-bound.result c.of-label.result c.args.general c.in_ok-held.held c.unwrap_or.result c.bound-bound.ensures.value label c.in_ok-held.ensures.held c.unwrap_or.ensures in
    on_ok_weaker c.push_decision.result
    (λ e. lieutenant_whole (g.H.Heard.seen c.args.table.now) c.args.traitors.now c.args.general (string_bytes c.args.lines.now) (string_bytes c.write.new.self) (string_bytes c.push_lists.new.lines) (string_bytes c.push_decision.new.lines) c.bound-bound.result c.of-label.result c.is_named.result c.unwrap_or.result
    first c.in_ok-held.ensures.lines c.bound-bound.ensures.value label c.is_named.ensures decided e)
    c.push_decision.ensures
