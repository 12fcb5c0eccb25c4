use Rattle.std.proofs.Common.{ap, ◌∙◌}
use Rattle.label.specs.Labels.{on}
use Rattle.outbox.proofs.Members.{on_within}
use Rattle.outbox.proofs.receivers.Receivers.mask.Goals as goal

pub returns : goal.returns
returns c g lt = on_within c.self.inside.mask g lt ∙ ap (λ names. on names g) c.self.view_is
