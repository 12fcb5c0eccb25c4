use Rattle.clap.specs.Words.{found_of, rows_of}
use Rattle.surveyor.specs.Wrong.{IsRefused}
use Rattle.surveyor.proofs.MeantLemmas.{NoBreak, handed_on, no_break, no_break_shape}
use Rattle.surveyor.proofs.task_words.breaks.break_of.Goals as goal

pub returns-in_err-survey-clause-refused : goal.returns-in_err-survey-clause-refused
returns-in_err-survey-clause-refused c =
    let rows = rows_of (found_of c.args.found.now) in
    handed_on (IsRefused rows (NoBreak rows)) c.from_residual.result c.in_err-survey.field-0.0 c.from_residual.ensures.1 (no_break rows c.in_err-survey.field-0.0 c.in_err-survey.ensures.refused)

pub returns-in_err-is_table-clause-refused : goal.returns-in_err-is_table-clause-refused
returns-in_err-is_table-clause-refused c =
    let rows = rows_of (found_of c.args.found.now) in
    handed_on (IsRefused rows (NoBreak rows)) c.from_residual-in_err-is_table.result c.in_err-is_table.field-0.0 c.from_residual-in_err-is_table.ensures.1
    (no_break_shape rows c.in_ok-survey.survey c.in_err-is_table.field-0.0 c.requires c.in_ok-survey.ensures.told c.in_err-is_table.ensures.refused)
