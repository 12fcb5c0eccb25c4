-- The line of a search or of a certificate is what the task prints, and its refusal is the task's.
use Rattle.std.proofs.Common.{subst, sym}
use Rattle.std.proofs.lemmas.Result.{err_from_is_err_and}
use Rattle.std.specs.Prelude.{string_bytes}
use Rattle.cli_words.specs.declared.tasks.Task.{Task}
use Rattle.cli_tasks.specs.TaskAnswers.{Prints}
use Rattle.cli_tasks.specs.TaskRefusals.{Refuses}
use Rattle.cli_tasks.proofs.task_answer.answer.Goals as goal

pub returns-in_ok-exhausted-in-Exhaust-clause-answered : goal.returns-in_ok-exhausted-in-Exhaust-clause-answered
returns-in_ok-exhausted-in-Exhaust-clause-answered c =
    subst (λ (task : Task). Prints task c.args.bytes.now (string_bytes c.in_ok-exhausted-in-Exhaust.field-0)) (sym c.in-Exhaust.is) c.in_ok-exhausted-in-Exhaust.ensures.decides

pub returns-in_ok-certificate-in-Certify-clause-answered : goal.returns-in_ok-certificate-in-Certify-clause-answered
returns-in_ok-certificate-in-Certify-clause-answered c =
    subst (λ (task : Task). Prints task c.args.bytes.now (string_bytes c.in_ok-certificate-in-Certify.field-0)) (sym c.in-Certify.is) c.in_ok-certificate-in-Certify.ensures.certifies

pub returns-in_err-exhausted-in-Exhaust-clause-refused : goal.returns-in_err-exhausted-in-Exhaust-clause-refused
returns-in_err-exhausted-in-Exhaust-clause-refused c =
    let own = c.in_err-exhausted-in-Exhaust.field-0.0 in
    let p = err_from_is_err_and c.from_residual-in_err-exhausted-in-Exhaust.result c.from_residual-in_err-exhausted-in-Exhaust.ensures.1 in
    rw (p.1, p.2) (subst (λ (task : Task). Refuses task c.args.bytes.now own) (sym c.in-Exhaust.is) c.in_err-exhausted-in-Exhaust.ensures.refused)
