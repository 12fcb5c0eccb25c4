use Rattle.std.proofs.Common.{◌<◌, ◌^◌, arith}
use Rattle.absmem.proofs.Masks.{has_mask}
use Rattle.absmem.proofs.mask.has.Goals as goal

pub returns : goal.returns
returns c =
    let small : c.args.mask < 2 ^ 64 = omega arith in
    has_mask c.args.word c.args.mask small
