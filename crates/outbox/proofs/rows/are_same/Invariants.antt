use Rattle.std.proofs.Common.{◌≡◌, ◌<◌, ℕ, get_or, None}
use Rattle.outbox.proofs.rows.are_same.Given as goal

abbrev pub invariant-loop-number : goal.invariant-loop-number
invariant-loop-number l = (k : ℕ) → k < l.number → get_or l.told k None ≡ get_or l.others k None
