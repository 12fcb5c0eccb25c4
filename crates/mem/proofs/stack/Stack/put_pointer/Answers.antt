-- The cells of the window are the pointer's pieces, and its offset is stored at the first.
use Rattle.std.proofs.Common.{◌∙◌, ap, List, to_z, of_z}
use Rattle.std.specs.Int.{w32}
use Rattle.std.proofs.lemmas.Int.{to_z-of_z}
use Rattle.semantics.specs.declared.value.Cell.{Cell}
use Rattle.semantics.specs.Memory.{overwritten, pieces_of}
use Rattle.mem.proofs.Kept.{pointer_kept}
use Rattle.mem.proofs.stack.Stack.put_pointer.Goals as goal

pub returns : goal.returns
returns c =
    pointer_kept c.self.inside.kinds c.self.inside.bytes c.self.inside.offsets c.put.new.bytes c.args.place c.args.region c.args.offset c.pieces.result c.cast_unsigned.result c.self.invariant c.requires
    c.pieces.ensures c.put.ensures (ap (to_z w32) (c.cast_unsigned.ensures ∙ ap (of_z w32) (to_z-of_z w32 c.args.offset c.ranges.offset)) ∙ to_z-of_z w32 c.args.offset c.ranges.offset)
    ∙ ap (λ (l : List Cell). overwritten l c.args.place (pieces_of c.args.region c.args.offset)) c.self.view_is
