use Rattle.std.proofs.Common.{◌∙◌, sym}
use Rattle.verify.proofs.Surveys.{survey_structural}
use Rattle.verify.proofs.survey.known_at_units.Goals as goal

pub returns-in-Some : goal.returns-in-Some
returns-in-Some c = survey_structural c.args.program.now c.new.result.items c.in-Some.fault c.new.ensures.items (sym c.find_fault.ensures ∙ c.in-Some.is)

pub known_forward-requires : goal.known_forward-requires
known_forward-requires c = sym c.find_fault.ensures ∙ c.in_default.is
