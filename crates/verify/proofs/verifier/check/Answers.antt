use Rattle.std.proofs.Common.{◌∙◌, Option, sym, subst}
use Rattle.verify.specs.declared.error.VerifyError.{VerifyError}
use Rattle.verify.specs.Judgement.{judged}
use Rattle.verify.specs.Passes.{Answers}
use Rattle.verify.proofs.PassLaws.{structural_judged, judged_pass}
use Rattle.verify.proofs.UnitRuns.{answers_wanted}
use Rattle.verify.proofs.Walk.{forward_of_structure}
use Rattle.verify.proofs.verifier.check.Goals as goal

pub pass-requires : goal.pass-requires
pass-requires c = forward_of_structure c.args.program.now (sym c.find_fault.ensures ∙ c.in_default.is)

pub returns-in-Some-clause-judged : goal.returns-in-Some-clause-judged
returns-in-Some-clause-judged c =
    answers_wanted (judged c.args.program.now) c.in-Some.fault (structural_judged c.args.program.now c.in-Some.fault (sym c.find_fault.ensures ∙ c.in-Some.is))

pub returns-clause-judged : goal.returns-clause-judged
returns-clause-judged c =
    subst (λ (wanted : Option VerifyError). Answers wanted c.pass.result) (sym (judged_pass c.args.program.now (sym c.find_fault.ensures ∙ c.in_default.is))) c.pass.ensures.answers
