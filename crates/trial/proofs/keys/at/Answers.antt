use Rattle.toml.proofs.Views.{table_get}
use Rattle.trial.proofs.keys.at.Goals as goal

pub returns : goal.returns
returns c =
    let found = table_get c.get.result c.text.result.now c.args.table.now.entries c.get.ensures.value in
    rw c.text.ensures at found
