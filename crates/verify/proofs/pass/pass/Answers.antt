use Rattle.verify.proofs.PassLaws.{length-opens}
use Rattle.verify.proofs.pass.pass.Goals as goal

pub pass_units-requires-clause-room : goal.pass_units-requires-clause-room
pass_units-requires-clause-room c = length-opens c.args.program.now c.in_ok-pending.pending.items c.in_ok-pending.ensures
