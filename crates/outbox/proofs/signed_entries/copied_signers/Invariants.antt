use Rattle.std.proofs.Common.{◌≡◌, take}
use Rattle.outbox.proofs.signed_entries.copied_signers.Given as goal

abbrev pub invariant-loop-mask : goal.invariant-loop-mask
invariant-loop-mask l = l.copy.items ≡ take l.mask-index l.signers
