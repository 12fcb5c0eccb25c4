-- The header, the numbers, and zeros.
use Rattle.std.proofs.Common.{refl, arith}
use Rattle.std.specs.Vec.{vec_len}
use Rattle.mem.proofs.Spelling.{context_done}
use Rattle.mem.proofs.context_writer.context_telling.Goals as goal

pub returns : goal.returns
returns c =
    context_done c.args.header.now c.args.header.now c.args.numbers.now c.in_ok-bytes.bytes.items c.spell.new.bytes.items c.spell-2.new.bytes.items c.resize.new.self.items (vec_len c.spell-2.new.bytes)
    (let a = c.told-header in let b = c.fits-header in omega arith) c.requires.few refl c.in_ok-bytes.ensures.items c.spell.ensures.bytes c.spell-2.ensures.bytes (let o = c.spell-2.new.bytes.ok in omega arith) c.in-Ok.ensures.items
