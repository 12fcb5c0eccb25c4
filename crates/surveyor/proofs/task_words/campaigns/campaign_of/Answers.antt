use Rattle.clap.specs.Words.{found_of, rows_of}
use Rattle.surveyor.specs.Wrong.{IsRefused}
use Rattle.surveyor.proofs.MeantLemmas.{NoCampaign, handed_on, no_shown_survey}
use Rattle.surveyor.proofs.task_words.campaigns.campaign_of.Goals as goal

pub returns-in_err-survey-clause-refused : goal.returns-in_err-survey-clause-refused
returns-in_err-survey-clause-refused c =
    let rows = rows_of (found_of c.args.found.now) in
    let word = c.args.word.now in
    handed_on (IsRefused rows (NoCampaign word rows)) c.from_residual-in_err-survey.result c.in_err-survey.field-0.0 c.from_residual-in_err-survey.ensures.1
    (no_shown_survey word rows c.in_err-survey.field-0.0 c.in_err-survey.ensures.refused)
