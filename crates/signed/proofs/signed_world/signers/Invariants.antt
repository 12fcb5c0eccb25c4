use Rattle.std.proofs.Common.{◌≡◌}
use Rattle.signed.specs.Sending.{signatures}
use Rattle.signed.proofs.signed_world.signers.Given as goal

abbrev pub invariant-loop-general : goal.invariant-loop-general
invariant-loop-general l = l.signers.items ≡ signatures l.general l.fn.commander
