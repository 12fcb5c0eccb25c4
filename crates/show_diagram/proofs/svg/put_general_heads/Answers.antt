use Rattle.std.proofs.Common.{◌++◌, ◌∙◌, ap}
use Rattle.std.specs.String.{string_bytes}
use Rattle.book.proofs.Gathering.{range_text}
use Rattle.show_diagram.specs.Svg.{head_of}
use Rattle.show_diagram.proofs.svg.put_general_heads.Goals as goal

pub loop-general-preserved : goal.loop-general-preserved
loop-general-preserved c =
    let piece = head_of c.args.scenario.now in
    c.in_ok-put_head_of.ensures ∙ (ap (λ xs. xs ++ piece c.loop-general.general) c.loop-general.invariant ∙ range_text piece c.loop-general.general (string_bytes c.args.out.now))
