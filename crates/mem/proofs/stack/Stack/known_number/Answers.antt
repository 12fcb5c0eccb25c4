-- The bytes are the stored ones.
use Rattle.insn.specs.Insn.{bytes_of}
use Rattle.mem.proofs.KnownCells.{number_known}
use Rattle.mem.proofs.stack.Stack.known_number.Goals as goal

pub returns : goal.returns
returns c =
    number_known c.self.inside.kinds c.self.inside.bytes c.self.inside.offsets c.args.self.now c.args.place (bytes_of c.args.size) c.number_at.result c.self.view_is c.self.invariant.bytes_room
    c.requires.inside c.requires.known c.number_at.ensures
