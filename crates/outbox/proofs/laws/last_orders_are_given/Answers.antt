use Rattle.outbox.proofs.LastOrders.{gives, stays}
use Rattle.outbox.proofs.laws.last_orders_are_given.Goals as goal

pub returns : goal.returns
returns c = record { gives = gives; stays = stays }
