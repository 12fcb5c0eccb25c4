use Rattle.std.proofs.Common.{◌≡◌, take}
use Rattle.outbox.proofs.signed_entries.copied_entries.Given as goal

abbrev pub invariant-loop-entry : goal.invariant-loop-entry
invariant-loop-entry l = l.copy.items ≡ take l.entry-index l.entries
