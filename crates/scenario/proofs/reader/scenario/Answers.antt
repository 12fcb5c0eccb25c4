use Rattle.std.proofs.lemmas.Result.{err_from_is_err_and}
use Rattle.toml.specs.View.{table_view, items_view}
use Rattle.scenario.specs.declared.messages.Kinds.TheVariants.{OralAlone}
use Rattle.scenario.specs.Checks.{head}
use Rattle.scenario.specs.Reading.{scenario_of}
use Rattle.scenario.proofs.Answering.{head_fails, tables_fail, seats_answer}
use Rattle.scenario.proofs.reader.scenario.Goals as goal

pub returns-in_err-head : goal.returns-in_err-head
returns-in_err-head c =
    let p = err_from_is_err_and c.from_residual.result c.from_residual.ensures.1 in
    rw (p.1, p.2) (head_fails scenario_of (head OralAlone) (table_view c.args.table.now) c.in_err-head.field-0.0 c.in_err-head.ensures)

pub returns-in_err-values : goal.returns-in_err-values
returns-in_err-values c =
    let p = err_from_is_err_and c.from_residual-in_err-values.result c.from_residual-in_err-values.ensures.1 in
    rw (p.1, p.2) (tables_fail scenario_of (head OralAlone) (table_view c.args.table.now) c.in_ok-head.head c.in_err-values.field-0.0 c.in_ok-head.ensures (rw c.at.ensures at c.in_err-values.ensures))

pub returns : goal.returns
returns c = seats_answer scenario_of (head OralAlone) (table_view c.args.table.now) c.in_ok-head.head (items_view c.in_ok-values.values.now) c.seated.result c.in_ok-head.ensures (rw c.at.ensures at c.in_ok-values.ensures) c.seated.ensures
