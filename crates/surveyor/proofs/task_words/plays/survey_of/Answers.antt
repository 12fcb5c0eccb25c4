use Rattle.std.proofs.Common.{codes, refl}
use Rattle.clap.specs.Words.{found_of, rows_of}
use Rattle.surveyor.specs.Wrong.{IsRefused}
use Rattle.surveyor.proofs.MeantLemmas.{NoSurvey, handed_on, no_bound, no_orders, no_seeds}
use Rattle.surveyor.proofs.task_words.plays.survey_of.Goals as goal

pub returns-in_err-bound-clause-refused : goal.returns-in_err-bound-clause-refused
returns-in_err-bound-clause-refused c =
    let rows = rows_of (found_of c.args.found.now) in
    handed_on (IsRefused rows (NoSurvey rows)) c.from_residual-in_err-bound.result c.in_err-bound.field-0.0 c.from_residual-in_err-bound.ensures.1
    (no_bound rows c.value-2.result.now (codes "--bound takes 0 to 4, such as 1 or 1..2") c.in_err-bound.field-0.0 c.value-2.ensures refl c.in_err-bound.ensures.refused)

pub returns-in_err-first-clause-refused : goal.returns-in_err-first-clause-refused
returns-in_err-first-clause-refused c =
    let rows = rows_of (found_of c.args.found.now) in
    handed_on (IsRefused rows (NoSurvey rows)) c.from_residual-in_err-first.result c.in_err-first.field-0.0 c.from_residual-in_err-first.ensures.1
    (no_seeds rows c.value-4.result.now c.in_err-first.field-0.0 c.value-4.ensures c.in_err-first.ensures.refused)

pub returns-in_err-orders-clause-refused : goal.returns-in_err-orders-clause-refused
returns-in_err-orders-clause-refused c =
    let rows = rows_of (found_of c.args.found.now) in
    handed_on (IsRefused rows (NoSurvey rows)) c.from_residual-in_err-orders.result c.in_err-orders.field-0.0 c.from_residual-in_err-orders.ensures.1
    (no_orders rows c.value-6.result.now c.in_err-orders.field-0.0 c.value-6.ensures c.in_err-orders.ensures.refused)
