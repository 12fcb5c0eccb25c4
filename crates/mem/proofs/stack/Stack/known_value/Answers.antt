-- Fewer than 8 cells are a number.
use Rattle.mem.proofs.KnownCells.{value_known}
use Rattle.mem.proofs.stack.Stack.known_value.Goals as goal

pub returns-in_default : goal.returns-in_default
returns-in_default c =
    value_known c.self.inside.kinds c.self.inside.bytes c.self.inside.offsets c.args.self.now c.args.place c.args.size c.number_at.result c.self.view_is c.self.invariant.bytes_room
    c.requires.inside c.in_default.not-Double c.requires.known c.number_at.ensures
