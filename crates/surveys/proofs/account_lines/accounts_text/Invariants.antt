use Rattle.std.proofs.Common.{◌≡◌, take}
use Rattle.std.specs.Prelude.{flat_map}
use Rattle.std.specs.String.{string_bytes}
use Rattle.surveys.specs.Accounting.{account_text}
use Rattle.surveys.proofs.account_lines.accounts_text.Given as goal

abbrev pub invariant-loop-account : goal.invariant-loop-account
invariant-loop-account l = string_bytes l.out ≡ flat_map account_text (take l.account-index l.accounts)
