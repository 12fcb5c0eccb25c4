use Rattle.std.proofs.Common.{◌∙◌, true, false}
use Rattle.verify.proofs.MemoryRows.{bytes_tested, number_from_stack}
use Rattle.verify.proofs.memory.load_stack.Goals as goal

pub returns-then-not-has_bytes : goal.returns-then-not-has_bytes
returns-then-not-has_bytes c =
    number_from_stack c.args.stack.now c.args.size c.args.window false c.in_default.ensures
    (bytes_tested c.has_bytes.result c.args.stack.now.bytes c.args.window.place c.args.window.size c.has_bytes.ensures.known ∙ c.if-not-has_bytes.true)

pub returns : goal.returns
returns c =
    rw c.loaded.ensures.exact (number_from_stack c.args.stack.now c.args.size c.args.window true c.in_default.ensures
    (bytes_tested c.has_bytes.result c.args.stack.now.bytes c.args.window.place c.args.window.size c.has_bytes.ensures.known ∙ c.if-not-has_bytes.false))
