use Rattle.toml.proofs.Views.{table_get}
use Rattle.scenario.proofs.text_tables.list_at.Goals as goal

pub returns-in-Some-as_array : goal.returns-in-Some-as_array
returns-in-Some-as_array c =
    let found = table_get c.get.result c.args.key.now c.args.table.now.entries c.get.ensures.value in
    let listed = rw c.in-Some-as_array.is at c.as_array.ensures in
    rw (c.as_slice.ensures.value, ← rw c.in-Some.is at found) listed

pub returns-in-None-as_array : goal.returns-in-None-as_array
returns-in-None-as_array c =
    let found = table_get c.get.result c.args.key.now c.args.table.now.entries c.get.ensures.value in
    rw (← rw c.in-Some.is at found) (rw c.in-None-as_array.is at c.as_array.ensures)

pub returns-in-None : goal.returns-in-None
returns-in-None c =
    let found = table_get c.get.result c.args.key.now c.args.table.now.entries c.get.ensures.value in
    rw (← rw c.in-None.is at found)
