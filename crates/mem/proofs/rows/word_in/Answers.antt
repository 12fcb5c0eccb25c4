-- The context's cells are bytes.
use Rattle.mem.proofs.Loading.{context_number}
use Rattle.mem.proofs.rows.word_in.Goals as goal

pub returns-in-Context : goal.returns-in-Context
returns-in-Context c = rw (c.in-Context.is, c.word-in-Context.ensures) (context_number c.args.context.now c.args.place 4)
