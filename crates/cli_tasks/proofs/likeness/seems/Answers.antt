use Rattle.std.proofs.Common.{◌≡◌, arith, length, min, refl}
use Rattle.std.proofs.lemmas.List.{take_min}
use Rattle.cli_tasks.specs.Seeming.{seems_at_first}
use Rattle.cli_tasks.proofs.likeness.seems.Goals as goal

pub returns : goal.returns
unfolding seems_at_first
returns c =
    let e : c.min.result ≡ min 32768 (length c.args.bytes.now) = omega arith in
    rw (c.whole.ensures, e, take_min) refl
