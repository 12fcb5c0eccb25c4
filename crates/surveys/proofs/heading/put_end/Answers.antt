use Rattle.std.proofs.Common.{◌++◌, codes}
use Rattle.std.specs.Prelude.{decimal}
use Rattle.std.specs.String.{string_bytes}
use Rattle.surveys.proofs.LineLemmas.{named, three_pieces}
use Rattle.surveys.proofs.heading.put_end.Goals as goal

pub returns : goal.returns
returns c =
    let g = c.args.traitors in
    let o = string_bytes c.args.out.now in
    let s = string_bytes c.put_numbered.new.out in
    let t = string_bytes c.put_numbered-2.new.out in
    let u = string_bytes c.push_str.new.self in
    three_pieces o s t u (codes ",\"traitors_high\":" ++ decimal g.high) (codes ",\"traitors_low\":" ++ decimal g.low) (codes "}\n")
    (named o s (codes ",\"traitors_high\":") (decimal g.high) (rw (← c.from.ensures) c.in_ok-put_numbered.ensures))
    (named s t (codes ",\"traitors_low\":") (decimal g.low) (rw (← c.from-2.ensures) c.in_ok-put_numbered-2.ensures))
    c.in_ok-push_str.ensures.bytes
