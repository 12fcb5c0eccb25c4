use Rattle.std.proofs.Common.{◌++◌, ◌∙◌, ap, codes}
use Rattle.std.specs.Prelude.{decimal}
use Rattle.std.specs.String.{string_bytes}
use Rattle.surveys.specs.Account.{Account}
use Rattle.surveys.specs.Accounting.{account_front, list_text}
use Rattle.surveys.specs.Lines.{flag_text}
use Rattle.surveys.proofs.LineLemmas.{named, three_pieces}
use Rattle.surveys.proofs.account_lines.put_front.Goals as goal

pub returns : goal.returns
returns c =
    let a = c.account.inside in
    let o = string_bytes c.args.out.now in
    let s = string_bytes c.put_flag.new.out in
    let t = string_bytes c.put_numbered.new.out in
    let u = string_bytes c.put_list.new.out in
    three_pieces o s t u (codes "{\"alike\":" ++ flag_text a.finding.verdict.alike) (codes ",\"bound\":" ++ decimal a.finding.bound) (codes ",\"decisions\":" ++ list_text a.decisions.items)
    (named o s (codes "{\"alike\":") (flag_text a.finding.verdict.alike) c.in_ok-put_flag.ensures)
    (named s t (codes ",\"bound\":") (decimal a.finding.bound) (rw (← c.from.ensures) c.in_ok-put_numbered.ensures))
    (named t u (codes ",\"decisions\":") (list_text a.decisions.items) (rw c.as_slice.ensures.value at c.in_ok-put_list.ensures))
    ∙ ap (λ (q : Account). string_bytes c.args.out.now ++ account_front q) c.account.view_is
