-- The context's cells are bytes.
use Rattle.insn.specs.Insn.{bytes_of}
use Rattle.mem.proofs.Loading.{context_value}
use Rattle.mem.proofs.access.value_in.Goals as goal

pub returns-in-Context : goal.returns-in-Context
returns-in-Context c = rw (c.in-Context.is, c.number.ensures) (context_value c.args.context.now c.args.place (bytes_of c.args.size))
