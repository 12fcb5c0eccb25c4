use Rattle.std.proofs.Common.{◌∙◌}
use Rattle.verify.proofs.PassLaws.{opens_so}
use Rattle.verify.proofs.pass.opened.Goals as goal

pub returns : goal.returns
returns c =
    opens_so c.args.program.now c.in_ok-boxed.field-0.value c.units.result c.in_ok-pending.pending.items c.flow.new.pending.items
    (c.in_ok-boxed.ensures ∙ c.at_entry.ensures)
    c.units.ensures.units c.in_ok-pending.ensures c.flow.ensures
