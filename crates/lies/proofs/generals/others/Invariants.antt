use Rattle.std.proofs.Common.{◌≡◌}
use Rattle.label.specs.Labels.{others}
use Rattle.lies.proofs.generals.others.Given as goal

abbrev pub invariant-loop-general : goal.invariant-loop-general
invariant-loop-general l = l.rest.items ≡ others l.general l.generals
