use Rattle.std.proofs.Common.{◌≤◌, length, subst, arith}
use Rattle.semantics.specs.Relay.{relayed}
use Rattle.outbox.specs.Contents.{Contents, HasPlaces, relay_of}
use Rattle.outbox.proofs.Outcomes.{rows_few}
use Rattle.outbox.proofs.LastOrders.{has_places}
use Rattle.outbox.proofs.outbox.Outbox.labels.Goals as goal

pub overflow_cast-result : goal.overflow_cast-result
overflow_cast-result c =
    let few : length c.self.inside.rows ≤ 990 = rows_few (relay_of c.self.inside.shape c.self.inside.signing) c.self.inside.rows c.self.invariant in
    omega arith

pub returns-clause-few : goal.returns-clause-few
returns-clause-few c =
    let few : length c.self.inside.rows ≤ 990 = rows_few (relay_of c.self.inside.shape c.self.inside.signing) c.self.inside.rows c.self.invariant in
    omega arith

pub returns-clause-places : goal.returns-clause-places
returns-clause-places c = subst (λ (k : Contents). HasPlaces k.relay k.rows) c.self.view_is (has_places c.self.inside.shape 0 c.self.inside.rows (relayed (relay_of c.self.inside.shape c.self.inside.signing)) c.self.invariant.names)
