use Rattle.std.proofs.Common.{◌≡◌, drop}
use Rattle.toml.specs.View.{items_view, table_view}
use Rattle.scenario.specs.Members.{join}
use Rattle.scenario.specs.Resolved.{one_each}
use Rattle.scenario.proofs.resolution.push_each.Given as goal

abbrev pub invariant-loop-index : goal.invariant-loop-index
invariant-loop-index l =
    join (items_view l.done.items) (one_each l.files (table_view l.table) (items_view (drop l.index l.generals)))
    ≡ join (items_view l.fn.done.items) (one_each l.files (table_view l.table) (items_view l.generals))
