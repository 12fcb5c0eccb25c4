use Rattle.std.proofs.Common.{ℕ, List, ◌+◌, ◌++◌, ◌∙◌, ap}
use Rattle.std.specs.String.{string_bytes}
use Rattle.show_diagram.specs.Left.{more_top, mores_of}
use Rattle.show_diagram.proofs.overflow.put_mores_in.Goals as goal

pub returns : goal.returns
returns c =
    let what : ℕ → ℕ → List ℕ = λ top round. string_bytes c.args.out.now ++ mores_of c.args.generals c.args.strokes.now top round in
    c.in_ok-put_mores_of.ensures
    ∙ (ap (λ (top : ℕ). what top (c.from.result + 1)) c.more_top.ensures
    ∙ ap (λ (i : ℕ). what (more_top c.args.generals c.args.drawn.now c.args.accesses.now c.args.before) (i + 1)) c.from.ensures)
