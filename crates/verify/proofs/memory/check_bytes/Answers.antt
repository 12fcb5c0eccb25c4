use Rattle.std.proofs.Common.{◌∙◌, true, false}
use Rattle.verify.proofs.MemoryRows.{bytes_tested, stack_checked}
use Rattle.verify.proofs.memory.check_bytes.Goals as goal

pub returns-then-not-has_bytes : goal.returns-then-not-has_bytes
returns-then-not-has_bytes c =
    stack_checked false c.args.stack.now c.args.region c.args.window c.in-Stack.is
    (bytes_tested c.has_bytes.result c.args.stack.now.bytes c.args.window.place c.args.window.size c.has_bytes.ensures.known ∙ c.if-not-has_bytes.true)

pub returns-else-not-has_bytes : goal.returns-else-not-has_bytes
returns-else-not-has_bytes c =
    stack_checked true c.args.stack.now c.args.region c.args.window c.in-Stack.is
    (bytes_tested c.has_bytes.result c.args.stack.now.bytes c.args.window.place c.args.window.size c.has_bytes.ensures.known ∙ c.if-not-has_bytes.false)
