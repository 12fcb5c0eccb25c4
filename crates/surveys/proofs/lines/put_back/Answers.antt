use Rattle.std.proofs.Common.{◌++◌, codes}
use Rattle.std.specs.Prelude.{decimal}
use Rattle.std.specs.String.{string_bytes}
use Rattle.surveys.specs.Lines.{answer_text}
use Rattle.surveys.proofs.LineLemmas.{four_pieces, named}
use Rattle.surveys.proofs.lines.put_back.Goals as goal

pub returns : goal.returns
returns c =
    let f = c.args.finding.now in
    let o = string_bytes c.args.out.now in
    let s = string_bytes c.put_answer.new.out in
    let t = string_bytes c.put_numbered.new.out in
    let u = string_bytes c.put_numbered-2.new.out in
    let v = string_bytes c.push_str.new.self in
    four_pieces o s t u v (codes ",\"line\":\"campaign\",\"obeyed\":" ++ answer_text f.verdict.obeyed) (codes ",\"seed\":" ++ decimal f.seed) (codes ",\"traitors\":" ++ decimal f.traitors) (codes "}\n")
    (named o s (codes ",\"line\":\"campaign\",\"obeyed\":") (answer_text f.verdict.obeyed) c.in_ok-put_answer.ensures)
    (named s t (codes ",\"seed\":") (decimal f.seed) c.in_ok-put_numbered.ensures)
    (named t u (codes ",\"traitors\":") (decimal f.traitors) c.in_ok-put_numbered-2.ensures)
    c.in_ok-push_str.ensures.bytes
