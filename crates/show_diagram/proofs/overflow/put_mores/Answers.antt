use Rattle.std.proofs.Common.{◌++◌, ◌∙◌, ap}
use Rattle.std.specs.String.{string_bytes}
use Rattle.book.proofs.Gathering.{range_text}
use Rattle.show_diagram.specs.Left.{mores_in}
use Rattle.show_diagram.proofs.overflow.put_mores.Goals as goal

pub loop-before-preserved : goal.loop-before-preserved
loop-before-preserved c =
    let piece = mores_in c.args.generals c.args.strokes.now c.args.drawn.now c.args.accesses.now in
    c.in_ok-put_mores_in.ensures ∙ (ap (λ xs. xs ++ piece c.loop-before.before) c.loop-before.invariant ∙ range_text piece c.loop-before.before (string_bytes c.args.out.now))
