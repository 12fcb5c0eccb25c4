use Rattle.std.proofs.Common.{sym, ap, ◌∙◌}
use Rattle.outbox.specs.Rows.{receivers_in}
use Rattle.outbox.proofs.RowLemmas.{names_in}
use Rattle.outbox.proofs.row.MixedRow.receivers.Goals as goal

pub returns : goal.returns
returns c = c.list.ensures ∙ (sym (names_in c.self.inside.orders c.self.inside.receivers) ∙ ap receivers_in c.self.view_is)
