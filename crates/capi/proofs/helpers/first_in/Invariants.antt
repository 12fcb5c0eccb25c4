use Rattle.std.proofs.Common.{ℕ, ◌<◌}
use Rattle.capi.specs.Helpers.{IsAllowedAt}
use Rattle.capi.proofs.helpers.first_in.Given as goal

abbrev pub invariant-loop-unit : goal.invariant-loop-unit
invariant-loop-unit l = (earlier : ℕ) → earlier < l.unit → IsAllowedAt l.mask l.program earlier
