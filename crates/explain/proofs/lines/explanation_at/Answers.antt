use Rattle.std.proofs.Common.{string_bytes}
use Rattle.explain.specs.Units.{written_in}
use Rattle.explain.proofs.SurveyLemmas.{told_whole}
use Rattle.explain.proofs.lines.explanation_at.Goals as goal

pub returns : goal.returns
returns c =
    let survey = c.in_ok-survey.survey in
    told_whole (written_in c.args.written.now) c.args.program.now survey.states.items c.as_slice-states.result.now survey.fault
    (string_bytes c.in_ok-out.out) (string_bytes c.put_lines.new.out) (string_bytes c.put_refused.new.out)
    c.in_ok-survey.ensures c.as_slice-states.ensures.value c.in_ok-out.ensures.bytes c.in_ok-put_lines.ensures c.in_ok-put_refused.ensures
