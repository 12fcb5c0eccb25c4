-- The context's cells are bytes.
use Rattle.insn.specs.Insn.{bytes_of}
use Rattle.mem.proofs.Loading.{context_number}
use Rattle.mem.proofs.access.number_in.Goals as goal

pub returns-in-Context : goal.returns-in-Context
returns-in-Context c = rw (c.in-Context.is, c.number-in-Context.ensures) (context_number c.args.context.now c.args.place (bytes_of c.args.size))
