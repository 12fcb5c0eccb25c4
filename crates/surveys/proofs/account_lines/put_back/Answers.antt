use Rattle.std.proofs.Common.{◌++◌, ◌∙◌, ap, codes}
use Rattle.std.specs.Prelude.{decimal}
use Rattle.std.specs.String.{string_bytes}
use Rattle.surveys.specs.Account.{Account}
use Rattle.surveys.specs.Accounting.{account_back, list_text}
use Rattle.surveys.proofs.LineLemmas.{four_pieces, named}
use Rattle.surveys.proofs.account_lines.put_back.Goals as goal

pub returns : goal.returns
returns c =
    let a = c.account.inside in
    let o = string_bytes c.args.out.now in
    let s = string_bytes c.put_numbered.new.out in
    let t = string_bytes c.put_numbered-2.new.out in
    let u = string_bytes c.put_list.new.out in
    let v = string_bytes c.push_str.new.self in
    four_pieces o s t u v (codes ",\"order\":" ++ decimal a.order) (codes ",\"seed\":" ++ decimal a.finding.seed) (codes ",\"traitors\":" ++ list_text a.traitors.items) (codes "}\n")
    (named o s (codes ",\"order\":") (decimal a.order) (rw (← c.from.ensures) c.in_ok-put_numbered.ensures))
    (named s t (codes ",\"seed\":") (decimal a.finding.seed) c.in_ok-put_numbered-2.ensures)
    (named t u (codes ",\"traitors\":") (list_text a.traitors.items) (rw c.as_slice.ensures.value at c.in_ok-put_list.ensures))
    c.in_ok-push_str.ensures.bytes
    ∙ ap (λ (q : Account). string_bytes c.args.out.now ++ account_back q) c.account.view_is
