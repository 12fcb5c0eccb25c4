use Rattle.std.proofs.Common.{◌++◌, ◌∙◌, ap}
use Rattle.std.specs.String.{string_bytes}
use Rattle.book.proofs.Gathering.{range_text}
use Rattle.show_page.specs.Account.{lieutenant_part}
use Rattle.show_page.proofs.sections.put_each_lieutenant.Goals as goal

pub loop-general-preserved : goal.loop-general-preserved
loop-general-preserved g c =
    let piece = lieutenant_part (g.H.Heard.seen c.args.table.now) c.args.traitors.now c.args.view in
    c.in_ok-put_lieutenant_of.ensures ∙ (ap (λ xs. xs ++ piece c.loop-general.general) c.loop-general.invariant ∙ range_text piece c.loop-general.general (string_bytes c.args.out.now))
