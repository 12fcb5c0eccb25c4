use Rattle.show_table.proofs.Trees.{explains_or_error}
use Rattle.show_table.proofs.explanation.explained.Goals as goal

pub returns : goal.returns
returns c =
    explains_or_error c.args.chronicle.now c.scenario.result.now c.told_table-table.result c.args.general c.in_ok-traitors.traitors.items c.as_slice.result.now
    c.scenario.ensures c.told_table-table.ensures c.as_slice.ensures.value c.in_ok-traitors.ensures
    c.asked.result c.asked.ensures
