use Rattle.outbox.proofs.Throughout.{kept_alike}
use Rattle.outbox.proofs.orders_by_number.OrdersByNumber.alike.Goals as goal

pub returns-clause-each : goal.returns-clause-each
returns-clause-each c n lt = kept_alike c.args.places c.args.order n lt
