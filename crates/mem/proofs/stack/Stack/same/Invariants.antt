use Rattle.std.proofs.Common.{◌≡◌, ◌<◌, ℕ, get_or}
use Rattle.semantics.specs.declared.value.Cell.TheVariants.{Empty}
use Rattle.mem.proofs.stack.Stack.same.Given as goal

abbrev pub invariant-loop-place : goal.invariant-loop-place
invariant-loop-place l = (k : ℕ) → k < l.place → get_or l.self k Empty ≡ get_or l.other k Empty
