use Rattle.std.proofs.Common.{◌++◌, ◌∙◌, ap}
use Rattle.std.specs.String.{string_bytes}
use Rattle.book.proofs.Gathering.{range_text}
use Rattle.show_diagram.specs.Foot.{decided}
use Rattle.show_diagram.proofs.foot.put_decisions.Goals as goal

pub loop-general-preserved : goal.loop-general-preserved
loop-general-preserved c =
    let piece = decided c.args.scenario.now c.args.decisions.now in
    c.in_ok-put_decided.ensures ∙ (ap (λ xs. xs ++ piece c.loop-general.general) c.loop-general.invariant ∙ range_text piece c.loop-general.general (string_bytes c.args.out.now))
