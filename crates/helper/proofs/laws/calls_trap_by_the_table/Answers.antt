use Rattle.helper.proofs.Traps.{calls_trap}
use Rattle.helper.proofs.laws.calls_trap_by_the_table.Goals as goal

pub returns : goal.returns
returns c = calls_trap
