use Rattle.book.specs.Hearing.{heard}
use Rattle.book.proofs.Reread.{read_again, within}
use Rattle.book.proofs.TreeTables.{trees_collected}
use Rattle.book.proofs.tree_table.TreeTable.of.Goals as goal

pub invariant_of-result : goal.invariant_of-result
invariant_of-result c = trees_collected c.args.generals c.args.bound c.args.commander c.args.rule c.requires.filled.0 c.args.trees.now c.requires.within c.requires.filled.1

pub returns : goal.returns
returns c = read_again (heard c.args.trees.now) c.recall_orders.ensures c.args.generals c.args.bound c.args.commander c.args.rule (within c.args.generals c.args.bound c.args.commander c.requires.within)
