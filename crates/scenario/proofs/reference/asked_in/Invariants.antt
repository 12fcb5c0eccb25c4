use Rattle.std.proofs.Common.{◌≡◌, [], drop}
use Rattle.toml.specs.View.{items_view}
use Rattle.scenario.specs.Asking.{asked_in, gathered}
use Rattle.scenario.proofs.reference.asked_in.Given as goal

abbrev pub invariant-loop-index : goal.invariant-loop-index
invariant-loop-index l = gathered l.done.items (asked_in l.index (items_view (drop l.index l.values))) ≡ gathered [] (asked_in 0 (items_view l.values))
