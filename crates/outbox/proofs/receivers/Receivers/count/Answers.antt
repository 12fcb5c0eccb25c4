use Rattle.std.proofs.Common.{ℕ, length, ap, ◌∙◌, arith, bit_and}
use Rattle.std.specs.Prelude.{count_ones}
use Rattle.outbox.proofs.Members.{members_counted, members_few}
use Rattle.outbox.proofs.receivers.Receivers.count.Goals as goal

pub returns-clause-count : goal.returns-clause-count
returns-clause-count c =
    (ap (λ (m : ℕ). count_ones (bit_and m 8191)) c.from.ensures ∙ (members_counted c.self.inside.mask ∙ ap length c.self.view_is))

pub returns-clause-few : goal.returns-clause-few
returns-clause-few c =
    let all = (ap (λ (m : ℕ). count_ones (bit_and m 8191)) c.from.ensures ∙ members_counted c.self.inside.mask) in
    let few = members_few c.self.inside.mask in
    omega arith
