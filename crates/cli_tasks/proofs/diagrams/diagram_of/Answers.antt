use Rattle.std.proofs.Common.{ap, ◌∙◌}
use Rattle.cli_tasks.proofs.DiagramLemmas.{is_diagram}
use Rattle.cli_tasks.proofs.diagrams.diagram_of.Goals as goal

pub returns : goal.returns
returns c =
    is_diagram c.args.chronicle.now c.scenario.result.now c.in_ok-told.told c.trees.result.now c.told_table-table.result c.into_bytes.result.items
    c.scenario.ensures c.recall.ensures c.requires.faithful c.in_ok-told.ensures c.trees.ensures c.recall_orders.ensures c.told_table-table.ensures
    (ap (λ bytes. bytes.items) c.into_bytes.ensures.value ∙ c.in_ok-campaign_svg.ensures)
