use Rattle.std.specs.Prelude.{Ok, Err}
use Rattle.std.proofs.lemmas.Result.{err_from_is_err_and}
use Rattle.toml.specs.View.{table_view, items_view}
use Rattle.scenario.specs.declared.messages.Kinds.TheVariants.{Both}
use Rattle.scenario.specs.Checks.{head}
use Rattle.scenario.specs.Reading.{campaign_of}
use Rattle.scenario.proofs.Answering.{head_fails, tables_fail, seats_answer, campaign_told, campaign_failed}
use Rattle.scenario.proofs.reader.campaign.Goals as goal

pub returns-in_err-head : goal.returns-in_err-head
returns-in_err-head c =
    let p = err_from_is_err_and c.from_residual.result c.from_residual.ensures.1 in
    rw (p.1, p.2) (head_fails campaign_of (head Both) (table_view c.args.table.now) c.in_err-head.field-0.0 c.in_err-head.ensures)

pub returns-in_err-values : goal.returns-in_err-values
returns-in_err-values c =
    let p = err_from_is_err_and c.from_residual-in_err-values.result c.from_residual-in_err-values.ensures.1 in
    rw (p.1, p.2) (tables_fail campaign_of (head Both) (table_view c.args.table.now) c.in_ok-head.head c.in_err-values.field-0.0 c.in_ok-head.ensures (rw c.at.ensures at c.in_err-values.ensures))

pub returns-in_err-scenario : goal.returns-in_err-scenario
returns-in_err-scenario c =
    let p = err_from_is_err_and c.from_residual-in_err-scenario.result c.from_residual-in_err-scenario.ensures.1 in
    rw (p.1, p.2) (seats_answer campaign_of (head Both) (table_view c.args.table.now) c.in_ok-head.head (items_view c.in_ok-values.values.now) (Err c.in_err-scenario.field-0.0) c.in_ok-head.ensures (rw c.at.ensures at c.in_ok-values.ensures)
    (campaign_failed c.in_ok-head.head (items_view c.in_ok-values.values.now) c.in_err-scenario.field-0.0 c.in_err-scenario.ensures))

pub returns : goal.returns
returns c =
    seats_answer campaign_of (head Both) (table_view c.args.table.now) c.in_ok-head.head (items_view c.in_ok-values.values.now) (Ok c.campaign_by.result) c.in_ok-head.ensures (rw c.at.ensures at c.in_ok-values.ensures)
    (campaign_told c.in_ok-head.head (items_view c.in_ok-values.values.now) c.in_ok-scenario.scenario c.campaign_by.result (rw (← c.head-2.view_is) c.campaign_by.ensures) c.in_ok-scenario.ensures)
