use Rattle.std.proofs.Common.{◌≡◌, drop}
use Rattle.toml.specs.View.{items_view}
use Rattle.scenario.specs.Resolved.{refers}
use Rattle.scenario.proofs.resolution.refers.Given as goal

abbrev pub invariant-loop-index : goal.invariant-loop-index
invariant-loop-index l = refers (items_view (drop l.index l.values)) ≡ refers (items_view l.values)
