use Rattle.std.proofs.Common.{ℕ, not, ap, ◌∙◌, ◌&&◌}
use Rattle.std.specs.Prelude.{◌==◌}
use Rattle.outbox.specs.Masks.{has_bit}
use Rattle.outbox.specs.Receivers.{struck}
use Rattle.outbox.proofs.Members.{members_struck}
use Rattle.outbox.proofs.receivers.Receivers.without.Goals as goal

pub returns : goal.returns
returns c =
    members_struck c.self.inside.mask c.without_bit.result c.args.general (λ n l. c.without_bit.ensures n l ∙ ap (λ (k : ℕ). not (n == k) && has_bit c.self.inside.mask n) c.from.ensures)
    ∙ ap (struck c.args.general) c.self.view_is
