-- The product fits into 32 bits.
use Rattle.std.proofs.Common.{arith}
use Rattle.std.proofs.lemmas.Nat.{mul-le}
use Rattle.campaign_orders.proofs.layers.product.Goals as goal

pub overflow_mul-result : goal.overflow_mul-result
overflow_mul-result c = omega (arith, mul-le c.args.times c.args.number 13 53248 c.requires.times c.requires.number)
