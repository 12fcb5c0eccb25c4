use Rattle.std.proofs.Common.{◌*◌, ◌≤◌, arith, length, length-take, refl, take}
use Rattle.std.proofs.lemmas.List.{drop_all}
use Rattle.cli_report.proofs.bytecode.unit_at.Goals as goal

pub returns-then-unit-ge4096 : goal.returns-then-unit-ge4096
returns-then-unit-ge4096 c =
    let few : length (take 32768 c.args.bytes.now) ≤ 32768 = omega (arith, length-take 32768 c.args.bytes.now) in
    rw (drop_all (8 * c.args.unit) (take 32768 c.args.bytes.now) (omega arith)) refl
