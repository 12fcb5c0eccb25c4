use Rattle.std.proofs.Common.{◌++◌, ◌∙◌, ap, codes}
use Rattle.std.specs.Prelude.{decimal}
use Rattle.std.specs.String.{string_bytes}
use Rattle.surveys.specs.Account.{Account}
use Rattle.surveys.specs.Accounting.{account_middle}
use Rattle.surveys.specs.Lines.{answer_text, flag_text}
use Rattle.surveys.proofs.LineLemmas.{named, three_pieces}
use Rattle.surveys.proofs.account_lines.put_middle.Goals as goal

pub returns : goal.returns
returns c =
    let a = c.account.inside in
    let o = string_bytes c.args.out.now in
    let s = string_bytes c.put_numbered.new.out in
    let t = string_bytes c.put_flag.new.out in
    let u = string_bytes c.put_answer.new.out in
    three_pieces o s t u (codes ",\"generals\":" ++ decimal a.finding.generals) (codes ",\"kept\":" ++ flag_text a.finding.verdict.bound) (codes ",\"line\":\"account\",\"obeyed\":" ++ answer_text a.finding.verdict.obeyed)
    (named o s (codes ",\"generals\":") (decimal a.finding.generals) (rw (← c.from.ensures) c.in_ok-put_numbered.ensures))
    (named s t (codes ",\"kept\":") (flag_text a.finding.verdict.bound) c.in_ok-put_flag.ensures)
    (named t u (codes ",\"line\":\"account\",\"obeyed\":") (answer_text a.finding.verdict.obeyed) c.in_ok-put_answer.ensures)
    ∙ ap (λ (q : Account). string_bytes c.args.out.now ++ account_middle q) c.account.view_is
