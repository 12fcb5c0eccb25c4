use Rattle.std.proofs.Common.{◌++◌, ◌∙◌, ap}
use Rattle.std.specs.String.{string_bytes}
use Rattle.book.proofs.Gathering.{range_text}
use Rattle.show_diagram.specs.Left.{more_of}
use Rattle.show_diagram.proofs.overflow.put_mores_of.Goals as goal

pub loop-general-preserved : goal.loop-general-preserved
loop-general-preserved c =
    let piece = more_of c.args.strokes.now c.args.top c.args.round in
    c.in_ok-put_more_of.ensures ∙ (ap (λ xs. xs ++ piece c.loop-general.general) c.loop-general.invariant ∙ range_text piece c.loop-general.general (string_bytes c.args.out.now))
