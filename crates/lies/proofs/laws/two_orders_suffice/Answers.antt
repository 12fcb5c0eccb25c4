use Rattle.lies.proofs.TwoOrderLaws.{proved_two_orders_suffice}
use Rattle.lies.proofs.laws.two_orders_suffice.Goals as goal

pub returns : goal.returns
returns c = proved_two_orders_suffice
