use Rattle.std.proofs.Common.{◌∙◌}
use Rattle.show_chains.proofs.StrokeLemmas.{told_three}
use Rattle.show_chains.proofs.strokes.push_told.Goals as goal

pub returns : goal.returns
returns c =
    told_three c.args.round c.args.receiver c.args.general c.args.sent.now c.args.owed.now _ _ _ c.args.list.now.items _ _ _
    (c.as_slice.ensures.value ∙ c.in_ok-same.ensures) (c.as_slice-2.ensures.value ∙ c.in_ok-other.ensures) (c.as_slice-3.ensures.value ∙ c.in_ok-missing.ensures)
    c.in_ok-push_grouped.ensures c.in_ok-push_grouped-2.ensures c.in_ok-push_grouped-3.ensures
