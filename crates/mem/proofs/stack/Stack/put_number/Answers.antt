-- The cells of the window are the bytes of the number.
use Rattle.std.proofs.Common.{◌∙◌, ap, List}
use Rattle.insn.specs.Insn.{bytes_of}
use Rattle.word.specs.Bytes.{little_bytes}
use Rattle.semantics.specs.declared.value.Cell.{Cell}
use Rattle.semantics.specs.declared.value.Cell.TheVariants.{Byte}
use Rattle.semantics.specs.Memory.{overwritten}
use Rattle.std.proofs.Common.{map}
use Rattle.mem.proofs.Kept.{number_kept, ones, length_bytes}
use Rattle.mem.proofs.stack.Stack.put_number.Goals as goal

pub returns : goal.returns
returns c =
    number_kept c.self.inside.kinds c.self.inside.bytes c.self.inside.offsets c.put.new.bytes c.put-2.new.bytes c.args.place (bytes_of c.args.size) (little_bytes (bytes_of c.args.size) 72340172838076673)
    (little_bytes (bytes_of c.args.size) c.args.number) c.self.invariant c.requires (length_bytes c.args.size 72340172838076673) (length_bytes c.args.size c.args.number) (ones c.args.size) c.put.ensures c.put-2.ensures
    ∙ ap (λ (l : List Cell). overwritten l c.args.place (map Byte (little_bytes (bytes_of c.args.size) c.args.number))) c.self.view_is
