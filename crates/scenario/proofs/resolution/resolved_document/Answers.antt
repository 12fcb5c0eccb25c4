use Rattle.std.proofs.Common.{sym, ◌∙◌}
use Rattle.std.proofs.lemmas.Result.{IfOk-weaker}
use Rattle.toml.specs.View.{items_view, table_view}
use Rattle.scenario.proofs.Documents.{printed_so}
use Rattle.scenario.proofs.resolution.resolved_document.Goals as goal

pub returns : goal.returns
returns c =
    IfOk-weaker c.printed.result _ _
    (λ new h. printed_so c.args.files.now (table_view c.args.table) _ (items_view c.in-Some.values.now) c.in_ok-list.list (table_view c.put.new.table) _
    (sym (rw c.in-Some.is at c.traitors.ensures)) (sym c.refers.ensures ∙ c.if-not-refers.false) c.in_ok-list.ensures c.in_ok-put.ensures h)
    c.printed.ensures
