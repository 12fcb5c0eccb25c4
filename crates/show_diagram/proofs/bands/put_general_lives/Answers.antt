use Rattle.std.proofs.Common.{◌++◌, ◌∙◌, ap}
use Rattle.std.specs.String.{string_bytes}
use Rattle.book.proofs.Gathering.{range_text}
use Rattle.show_diagram.specs.Bands.{general_life}
use Rattle.show_diagram.proofs.bands.put_general_lives.Goals as goal

pub loop-general-preserved : goal.loop-general-preserved
loop-general-preserved c =
    let piece = general_life c.args.height in
    c.in_ok-put_general_life.ensures ∙ (ap (λ xs. xs ++ piece c.loop-general.general) c.loop-general.invariant ∙ range_text piece c.loop-general.general (string_bytes c.args.out.now))
