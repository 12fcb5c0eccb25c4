use Rattle.show_table.proofs.Tables.{retold_or_error}
use Rattle.show_table.proofs.letter_table.table.Goals as goal

pub returns : goal.returns
returns c =
    retold_or_error c.args.chronicle.now c.in_ok-told.told c.scenario-scenario.result.now c.letters.result.now c.trees.result.now c.generals.result c.bound.result c.commander.result c.rule.result
    c.recall.ensures c.scenario-scenario.ensures c.letters.ensures c.trees.ensures c.generals.ensures.same c.bound.ensures.same c.commander.ensures.same c.rule.ensures c.requires c.in_ok-told.ensures
    c.table_of.result c.table_of.ensures.written c.table_of.ensures.read
