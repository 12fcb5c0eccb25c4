use Rattle.std.proofs.Common.{◌≡◌, drop}
use Rattle.toml.specs.View.{items_view}
use Rattle.scenario.specs.Resolved.{further, resolved}
use Rattle.scenario.proofs.resolution.resolved_list.Given as goal

abbrev pub invariant-loop-index : goal.invariant-loop-index
invariant-loop-index l = further l.files (items_view l.done.items) (items_view (drop l.index l.values)) ≡ resolved l.files (items_view l.values)
