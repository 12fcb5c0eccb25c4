-- All cells are empty.
use Rattle.std.proofs.Common.{arith}
use Rattle.std.proofs.lemmas.List.{get_or-replicate}
use Rattle.mem.proofs.Kept.{cells_empty}
use Rattle.mem.proofs.stack.Stack.new.Goals as goal

pub returns : goal.returns
returns c = cells_empty _ _ _ 0 512 (λ p l. get_or-replicate 512 p 0 0 (omega arith))
