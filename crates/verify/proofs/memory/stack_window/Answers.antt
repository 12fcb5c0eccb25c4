use Rattle.std.proofs.Common.{w16}
use Rattle.std.proofs.lemmas.Int.{to_z-of_z}
use Rattle.verify.proofs.MemoryRows.{stack_refused}
use Rattle.verify.proofs.memory.stack_window.Goals as goal

pub returns-in-Stack-clause-refused : goal.returns-in-Stack-clause-refused
returns-in-Stack-clause-refused c =
    stack_refused c.args.region c.window.result c.args.offsets.0 c.args.offsets.1 c.args.distance _ c.args.size c.in-Stack.is (to_z-of_z w16 c.args.distance c.ranges.distance) c.window.ensures.exact
