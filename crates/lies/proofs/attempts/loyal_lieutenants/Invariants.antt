use Rattle.std.proofs.Common.{◌≡◌, ◌∷◌}
use Rattle.label.specs.Labels.{others}
use Rattle.lies.proofs.attempts.loyal_lieutenants.Given as goal

abbrev pub invariant-loop-general : goal.invariant-loop-general
invariant-loop-general l = l.loyals.items ≡ others l.general (l.commander ∷ l.traitors)
