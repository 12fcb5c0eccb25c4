use Rattle.std.proofs.lemmas.Result.{IfErr-weaker}
use Rattle.verify.specs.declared.error.Refused.{Refused}
use Rattle.cli_tasks.specs.Refusals.{verifier_refusal}
use Rattle.std.proofs.Common.{refl}
use Rattle.cli_tasks.proofs.RefusalLemmas.{refused_program, told_err, told_ok}
use Rattle.cli_tasks.proofs.program_check.accepted_program.Goals as goal

pub returns-clause-same : goal.returns-clause-same
returns-clause-same c = told_ok (λ (r : Refused). verifier_refusal r.fault) _ c.verify.result c.accepted_by.result c.accepted_by.ensures c.verify.ensures.same

pub returns-clause-accepted : goal.returns-clause-accepted
returns-clause-accepted c = told_ok (λ (r : Refused). verifier_refusal r.fault) _ c.verify.result c.accepted_by.result c.accepted_by.ensures c.verify.ensures.accepted

pub returns-clause-sound : goal.returns-clause-sound
returns-clause-sound c = told_ok (λ (r : Refused). verifier_refusal r.fault) _ c.verify.result c.accepted_by.result c.accepted_by.ensures c.verify.ensures.sound

pub returns-clause-refused : goal.returns-clause-refused
returns-clause-refused c =
    told_err (λ (r : Refused). verifier_refusal r.fault) _ c.verify.result c.accepted_by.result c.accepted_by.ensures
    (IfErr-weaker c.verify.result _ _ (λ r why. refused_program c.args.program r.fault (verifier_refusal r.fault) refl why) c.verify.ensures.refused)
