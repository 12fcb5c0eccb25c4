-- The cell is not a byte.
use Rattle.std.proofs.Common.{arith}
use Rattle.mem.proofs.FirstCell.{byte_none}
use Rattle.mem.proofs.cells.byte_at.Goals as goal

pub returns-in_default : goal.returns-in_default
returns-in_default c =
    byte_none c.args.stack.now c.args.place c.cell.result (omega (arith, c.requires, c.recall.ensures)) c.cell.ensures c.in_default.not-Byte
