use Rattle.std.proofs.Common.{◌≡◌, drop}
use Rattle.toml.specs.View.{items_view}
use Rattle.scenario.specs.Origins.{has_general}
use Rattle.scenario.proofs.origins.has_general.Given as goal

abbrev pub invariant-loop-at : goal.invariant-loop-at
invariant-loop-at l = has_general l.general (items_view (drop l.at l.values)) ≡ has_general l.general (items_view l.values)
