use Rattle.std.proofs.Common.{◌≡◌, ◌<◌, ℕ, get_or}
use Rattle.semantics.specs.declared.entry.Entry.TheVariants.{Sign}
use Rattle.outbox.proofs.signed_entries.same_entries.Given as goal

abbrev pub invariant-loop-place : goal.invariant-loop-place
invariant-loop-place l = (k : ℕ) → k < l.place → get_or l.entries k (Sign 0 0) ≡ get_or l.others k (Sign 0 0)
