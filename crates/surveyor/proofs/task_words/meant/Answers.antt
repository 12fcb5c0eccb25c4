use Rattle.std.proofs.Common.{◌∙◌, sym}
use Rattle.clap.specs.Words.{found_of, rows_of}
use Rattle.surveyor.specs.Wrong.{AsksNothing, IsRefused}
use Rattle.surveyor.proofs.MeantLemmas.{handed_on, no_break_asked, no_survey_asked}
use Rattle.surveyor.proofs.task_words.meant.Goals as goal

pub returns-in_err-survey-clause-refused : goal.returns-in_err-survey-clause-refused
returns-in_err-survey-clause-refused c =
    let rows = rows_of (found_of c.args.found.now) in
    handed_on (IsRefused rows (AsksNothing rows)) c.from_residual-in_err-survey.result c.in_err-survey.field-0.0 c.from_residual-in_err-survey.ensures.1
    (no_break_asked rows c.in_err-survey.field-0.0 (sym c.in_default.ensures) (sym c.in_default-given.ensures) (sym c.has.ensures ∙ c.if-has.true) c.in_err-survey.ensures.refused)

pub returns-in_err-survey_of-clause-refused : goal.returns-in_err-survey_of-clause-refused
returns-in_err-survey_of-clause-refused c =
    let rows = rows_of (found_of c.args.found.now) in
    handed_on (IsRefused rows (AsksNothing rows)) c.from_residual-in_err-survey_of.result c.in_err-survey_of.field-0.0 c.from_residual-in_err-survey_of.ensures.1
    (no_survey_asked rows c.in_err-survey_of.field-0.0 (sym c.in_default.ensures) (sym c.in_default-given.ensures) (sym c.has.ensures ∙ c.if-has.false) c.in_err-survey_of.ensures.refused)
