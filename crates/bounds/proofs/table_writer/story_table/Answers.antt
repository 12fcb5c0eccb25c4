use Rattle.std.proofs.Common.{◌∙◌}
use Rattle.bounds.proofs.StoryTableLemmas.{table_is}
use Rattle.bounds.proofs.table_writer.story_table.Goals as goal

pub returns-clause-table : goal.returns-clause-table
returns-clause-table c =
    table_is c.args.rule c.args.generals c.args.commander c.args.bound c.args.story c.as_slice.result.now _
    c.in_ok-check_numbers.ensures.given (c.as_slice.ensures.value ∙ c.in_ok-trees.ensures) c.in_ok-table_of.ensures.written
