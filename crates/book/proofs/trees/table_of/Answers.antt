use Rattle.std.proofs.Common.{◌∙◌, ap}
use Rattle.std.proofs.lemmas.Result.{IfOk-weaker}
use Rattle.book.specs.Grammar.{table_told}
use Rattle.book.specs.Hearing.{heard}
use Rattle.book.proofs.Reread.{proved_tables_are_read, within}
use Rattle.book.proofs.trees.table_of.Goals as goal

pub returns-clause-read : goal.returns-clause-read
returns-clause-read c =
    let read = proved_tables_are_read (heard c.args.trees.now) c.recall_orders.ensures c.args.generals c.args.bound c.args.commander c.args.rule (within c.args.generals c.args.bound c.args.commander c.requires) in
    IfOk-weaker c.write.result _ _
    (λ text written. (read.0, ap table_told written ∙ read.1, read.2))
    c.write.ensures
