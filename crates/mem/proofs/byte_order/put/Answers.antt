-- The bytes of the number are at the index.
use Rattle.std.proofs.Common.{◌∙◌, ◌-◌, drop}
use borrow.Rule.Slice.PartMut.{mid_of}
use Rattle.word.specs.Bytes.{little_bytes}
use Rattle.mem.proofs.LittleWrites.{written_at, byte_written, half_bytes, word_bytes}
use Rattle.mem.proofs.byte_order.put.Goals as goal

pub returns-in-Byte : goal.returns-in-Byte
returns-in-Byte c =
    rw c.in-Byte.is
    (written_at c.args.bytes.now (little_bytes 1 c.args.number) _ c.args.place c.told-bytes (rw c.in-Byte.is at c.requires)
    (byte_written c.args.bytes.now c.args.place c.low_byte.result c.args.number c.told-bytes (rw c.in-Byte.is at c.requires) c.low_byte.ensures))

pub returns-in-Half : goal.returns-in-Half
returns-in-Half c =
    rw c.in-Half.is
    (written_at c.args.bytes.now (little_bytes 2 c.args.number) _ c.args.place c.told-bytes (rw c.in-Half.is at c.requires)
    (c.write_u16.ensures ∙ half_bytes c.args.number c.low_half.result (drop 2 (mid_of c.args.place (512 - c.args.place) c.args.bytes.now)) c.low_half.ensures))

pub returns-in-Word : goal.returns-in-Word
returns-in-Word c =
    rw c.in-Word.is
    (written_at c.args.bytes.now (little_bytes 4 c.args.number) _ c.args.place c.told-bytes (rw c.in-Word.is at c.requires)
    (c.write_u32.ensures ∙ word_bytes c.args.number c.low_word.result (drop 4 (mid_of c.args.place (512 - c.args.place) c.args.bytes.now)) c.low_word.ensures))

pub returns-in-Double : goal.returns-in-Double
returns-in-Double c =
    rw c.in-Double.is
    (written_at c.args.bytes.now (little_bytes 8 c.args.number) _ c.args.place c.told-bytes (rw c.in-Double.is at c.requires) c.write_u64.ensures)
