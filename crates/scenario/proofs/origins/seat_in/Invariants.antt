use Rattle.std.proofs.Common.{◌≡◌, drop}
use Rattle.toml.specs.View.{items_view}
use Rattle.scenario.specs.Origins.{seat_from}
use Rattle.scenario.proofs.origins.seat_in.Given as goal

abbrev pub invariant-loop-at : goal.invariant-loop-at
invariant-loop-at l = seat_from l.at l.general (items_view (drop l.at l.values)) ≡ seat_from 0 l.general (items_view l.values)
