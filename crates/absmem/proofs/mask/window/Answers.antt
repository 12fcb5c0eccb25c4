use Rattle.std.proofs.Common.{◌≤◌, arith}
use Rattle.std.proofs.Math.Pow.{pow_mono}
use Rattle.absmem.proofs.mask.window.Goals as goal

pub overflow_sub-result : goal.overflow_sub-result
overflow_sub-result c =
    let ordered : c.saturating_sub-from.result ≤ c.min-to.result = omega arith in
    omega (arith, pow_mono ordered)
