use Rattle.std.proofs.Common.{◌≡◌, take}
use Rattle.surveyor.proofs.AccountLemmas.{findings}
use Rattle.surveyor.proofs.accounts.findings_of.Given as goal

abbrev pub invariant-loop-account : goal.invariant-loop-account
invariant-loop-account l = l.findings.items ≡ findings (take l.account-index l.accounts)
