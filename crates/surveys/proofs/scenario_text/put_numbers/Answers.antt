use Rattle.std.proofs.Common.{◌∙◌, ◌++◌, ap, codes}
use Rattle.std.specs.Prelude.{decimal}
use Rattle.std.specs.String.{string_bytes}
use Rattle.surveys.specs.Plot.{Plot}
use Rattle.surveys.specs.Wording.{numbers_text}
use Rattle.surveys.proofs.LineLemmas.{five_pieces, named}
use Rattle.surveys.proofs.scenario_text.put_numbers.Goals as goal

pub returns : goal.returns
returns c =
    let p = c.plot.inside in
    let o = string_bytes c.args.out.now in
    let s = string_bytes c.put_numbered.new.out in
    let t = string_bytes c.put_numbered-2.new.out in
    let u = string_bytes c.put_numbered-3.new.out in
    let w = string_bytes c.put_numbered-4.new.out in
    let v = string_bytes c.push_str.new.self in
    five_pieces o s t u w v (codes "generals = " ++ decimal p.generals) (codes "\nbound = " ++ decimal p.bound) (codes "\ncommander = " ++ decimal p.commander) (codes "\norder = " ++ decimal p.order) (codes "\n")
    (named o s (codes "generals = ") (decimal p.generals) (rw (← c.from.ensures) c.in_ok-put_numbered.ensures))
    (named s t (codes "\nbound = ") (decimal p.bound) (rw (← c.from-2.ensures) c.in_ok-put_numbered-2.ensures))
    (named t u (codes "\ncommander = ") (decimal p.commander) (rw (← c.from-3.ensures) c.in_ok-put_numbered-3.ensures))
    (named u w (codes "\norder = ") (decimal p.order) (rw (← c.from-4.ensures) c.in_ok-put_numbered-4.ensures))
    c.in_ok-push_str.ensures.bytes
    ∙ ap (λ (q : Plot). string_bytes c.args.out.now ++ numbers_text q) c.plot.view_is
