use Rattle.std.proofs.Common.{ℕ, List, ◌∙◌, ◌++◌, ap}
use Rattle.std.specs.String.{string_bytes}
use Rattle.surveys.specs.Accounting.{account_back, account_middle}
use Rattle.surveys.proofs.LineLemmas.{joined_account}
use Rattle.surveys.proofs.account_lines.put_account.Goals as goal

pub returns : goal.returns
returns c =
    let a = c.args.account.now in
    c.in_ok-put_back.ensures ∙ (ap (λ (xs : List ℕ). xs ++ account_back a) (c.in_ok-put_middle.ensures ∙ ap (λ (xs : List ℕ). xs ++ account_middle a) c.in_ok-put_front.ensures)
    ∙ joined_account (string_bytes c.args.out.now) a)
