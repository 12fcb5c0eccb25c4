use Rattle.std.proofs.Common.{◌≡◌, drop}
use Rattle.toml.specs.View.{items_view}
use Rattle.scenario.specs.Origins.{origin_from}
use Rattle.scenario.proofs.origins.origin_in.Given as goal

abbrev pub invariant-loop-at : goal.invariant-loop-at
invariant-loop-at l = origin_from l.at l.left (items_view (drop l.at l.values)) ≡ origin_from 0 l.number (items_view l.values)
