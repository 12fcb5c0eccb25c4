use Rattle.std.proofs.Common.{ℕ, ◌≡◌, ◌≤◌, List, true, length, subst}
use Rattle.label.specs.Labels.{is_distinct}
use Rattle.label.specs.Oral.{AllBelow}
use Rattle.outbox.proofs.Members.{members_below, members_distinct, members_few}
use Rattle.outbox.proofs.receivers.Receivers.recall.Goals as goal

pub returns-clause-few : goal.returns-clause-few
returns-clause-few c = subst (λ (ns : List ℕ). length ns ≤ 13) c.self.view_is (members_few c.self.inside.mask)

pub returns-clause-below : goal.returns-clause-below
returns-clause-below c = subst (λ (ns : List ℕ). AllBelow 13 ns) c.self.view_is (members_below c.self.inside.mask)

pub returns-clause-distinct : goal.returns-clause-distinct
returns-clause-distinct c = subst (λ (ns : List ℕ). is_distinct ns ≡ true) c.self.view_is (members_distinct c.self.inside.mask)
