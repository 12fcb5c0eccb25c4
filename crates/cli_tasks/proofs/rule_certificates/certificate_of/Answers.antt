use Rattle.std.proofs.Common.{inl}
use Rattle.cli_tasks.proofs.rule_certificates.certificate_of.Goals as goal

pub returns-in_ok-format-in-None : goal.returns-in_ok-format-in-None
returns-in_ok-format-in-None c = inl (rw (c.in-None.is, c.min-longest.ensures, c.saturating_sub.ensures, c.from.ensures) at c.in_ok-lost.ensures.certified, c.in_ok-format-in-None.ensures.ok)
