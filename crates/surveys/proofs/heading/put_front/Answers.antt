use Rattle.std.proofs.Common.{◌++◌, codes}
use Rattle.std.specs.Prelude.{decimal}
use Rattle.std.specs.String.{string_bytes}
use Rattle.surveys.specs.Heads.{commander_text}
use Rattle.surveys.proofs.LineLemmas.{five_pieces, named}
use Rattle.surveys.proofs.heading.put_front.Goals as goal

pub returns : goal.returns
returns c =
    let b = c.args.bound in
    let g = c.args.generals in
    let o = string_bytes c.args.out.now in
    let s = string_bytes c.put_numbered.new.out in
    let t = string_bytes c.put_numbered-2.new.out in
    let k = string_bytes c.put_commander.new.out in
    let u = string_bytes c.put_numbered-3.new.out in
    let v = string_bytes c.put_numbered-4.new.out in
    five_pieces o s t k u v (codes ",\"bound_high\":" ++ decimal b.high) (codes ",\"bound_low\":" ++ decimal b.low) (commander_text c.args.commander) (codes ",\"generals_high\":" ++ decimal g.high) (codes ",\"generals_low\":" ++ decimal g.low)
    (named o s (codes ",\"bound_high\":") (decimal b.high) (rw (← c.from.ensures) c.in_ok-put_numbered.ensures))
    (named s t (codes ",\"bound_low\":") (decimal b.low) (rw (← c.from-2.ensures) c.in_ok-put_numbered-2.ensures))
    c.in_ok-put_commander.ensures
    (named k u (codes ",\"generals_high\":") (decimal g.high) (rw (← c.from-3.ensures) c.in_ok-put_numbered-3.ensures))
    (named u v (codes ",\"generals_low\":") (decimal g.low) (rw (← c.from-4.ensures) c.in_ok-put_numbered-4.ensures))
