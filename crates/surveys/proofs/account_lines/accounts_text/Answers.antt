use Rattle.std.specs.String.{string_bytes}
use Rattle.surveys.specs.Accounting.{account_text}
use Rattle.surveys.proofs.AccountTexts.{text_more}
use Rattle.surveys.proofs.account_lines.accounts_text.Goals as goal

pub loop-account-preserved : goal.loop-account-preserved
loop-account-preserved c =
    text_more account_text c.args.accounts.now c.loop-account.account-index c.account-item.result (string_bytes c.loop-account.out) (string_bytes c.put_account.new.out) c.loop-account-test.true c.account-item.is c.loop-account.invariant c.in_ok-put_account.ensures
