use Rattle.std.proofs.Common.{◌++◌, codes}
use Rattle.std.specs.Prelude.{decimal}
use Rattle.std.specs.String.{string_bytes}
use Rattle.surveys.specs.Lines.{flag_text}
use Rattle.surveys.proofs.LineLemmas.{four_pieces, named}
use Rattle.surveys.proofs.lines.put_front.Goals as goal

pub returns : goal.returns
returns c =
    let f = c.args.finding.now in
    let o = string_bytes c.args.out.now in
    let s = string_bytes c.put_flag.new.out in
    let t = string_bytes c.put_numbered.new.out in
    let u = string_bytes c.put_numbered-2.new.out in
    let v = string_bytes c.put_flag-2.new.out in
    four_pieces o s t u v (codes "{\"alike\":" ++ flag_text f.verdict.alike) (codes ",\"bound\":" ++ decimal f.bound) (codes ",\"generals\":" ++ decimal f.generals) (codes ",\"kept\":" ++ flag_text f.verdict.bound)
    (named o s (codes "{\"alike\":") (flag_text f.verdict.alike) c.in_ok-put_flag.ensures)
    (named s t (codes ",\"bound\":") (decimal f.bound) (rw (← c.from.ensures) c.in_ok-put_numbered.ensures))
    (named t u (codes ",\"generals\":") (decimal f.generals) (rw (← c.from-2.ensures) c.in_ok-put_numbered-2.ensures))
    (named u v (codes ",\"kept\":") (flag_text f.verdict.bound) c.in_ok-put_flag-2.ensures)
