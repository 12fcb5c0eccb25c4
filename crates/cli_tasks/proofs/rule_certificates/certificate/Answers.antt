-- A refusal other than that of a call is one of `check`.
use Rattle.std.proofs.lemmas.Result.{err_from_is_err_and}
use Rattle.cli_tasks.proofs.CertificateLemmas.{of_check}
use Rattle.cli_tasks.proofs.rule_certificates.certificate.Goals as goal

pub returns-in_err-verified-clause-refused : goal.returns-in_err-verified-clause-refused
returns-in_err-verified-clause-refused c =
    let p = err_from_is_err_and c.from_residual.result c.from_residual.ensures.1 in
    rw (p.1, p.2) (of_check c.args.notation.now c.args.bytes.now c.in_err-verified.field-0.0 c.in_err-verified.ensures.refused)
