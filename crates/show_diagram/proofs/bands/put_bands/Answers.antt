use Rattle.std.proofs.Common.{◌++◌, ◌∙◌, ap}
use Rattle.std.specs.String.{string_bytes}
use Rattle.book.proofs.Gathering.{range_text}
use Rattle.show_diagram.specs.Bands.{band}
use Rattle.show_diagram.proofs.bands.put_bands.Goals as goal

pub loop-before-preserved : goal.loop-before-preserved
loop-before-preserved c =
    let piece = band c.args.generals c.args.strokes.now c.args.accesses.now c.args.wide in
    c.in_ok-put_band.ensures ∙ (ap (λ xs. xs ++ piece c.loop-before.before) c.loop-before.invariant ∙ range_text piece c.loop-before.before (string_bytes c.args.out.now))
