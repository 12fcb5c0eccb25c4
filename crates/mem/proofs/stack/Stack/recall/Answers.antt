-- A stack has 512 cells.
use Rattle.std.proofs.Common.{◌≡◌, List, length, subst}
use Rattle.semantics.specs.declared.value.Cell.{Cell}
use Rattle.mem.proofs.Kept.{cells_length}
use Rattle.mem.proofs.stack.Stack.recall.Goals as goal

pub returns : goal.returns
returns c = subst (λ (l : List Cell). length l ≡ 512) c.self.view_is (cells_length c.self.inside.kinds c.self.inside.bytes c.self.inside.offsets 0 512)
