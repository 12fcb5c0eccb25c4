use Rattle.std.proofs.Common.{◌-◌, arith}
use Rattle.std.proofs.lemmas.Nat.{mul-lt}
use Rattle.surveys.proofs.wilson.is_below.Goals as goal

pub overflow_mul-spread : goal.overflow_mul-spread
overflow_mul-spread c = (let within = c.requires.share in omega (arith, mul-lt c.args.share (10000 - c.args.share) 10001 10001 (omega arith) (omega arith)))
