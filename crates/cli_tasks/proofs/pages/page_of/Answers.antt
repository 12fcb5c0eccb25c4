use Rattle.std.proofs.Common.{ap, ◌∙◌}
use Rattle.std.specs.Prelude.{option_map}
use Rattle.cli_tasks.proofs.PageLemmas.{is_page}
use Rattle.cli_tasks.proofs.pages.page_of.Goals as goal

pub returns : goal.returns
returns c =
    is_page c.args.scenario_text.now (option_map (λ s. s.now) c.args.schedule) c.args.chronicle.now c.scenario.result.now c.in_ok-told.told c.trees.result.now c.told_table-table.result c.into_bytes.result.items
    c.scenario.ensures c.recall.ensures c.requires.faithful c.in_ok-told.ensures c.trees.ensures c.recall_orders.ensures c.told_table-table.ensures
    (ap (λ bytes. bytes.items) c.into_bytes.ensures.value ∙ c.in_ok-page_text.ensures)
