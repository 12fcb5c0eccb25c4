use Rattle.std.proofs.Common.{◌++◌, ◌∙◌, ap}
use Rattle.std.specs.String.{string_bytes}
use Rattle.book.proofs.Gathering.{range_text}
use Rattle.show_page.specs.SignedAccount.{lieutenant_part}
use Rattle.show_page.proofs.lieutenants.put_each_lieutenant.Goals as goal

pub loop-general-preserved : goal.loop-general-preserved
loop-general-preserved c =
    let piece = lieutenant_part c.args.chronicle.now in
    c.in_ok-put_lieutenant_of.ensures ∙ (ap (λ xs. xs ++ piece c.loop-general.general) c.loop-general.invariant ∙ range_text piece c.loop-general.general (string_bytes c.args.out.now))
