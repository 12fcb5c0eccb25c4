use Rattle.std.proofs.Common.{◌≡◌, drop, length}
use Rattle.std.specs.Prelude.{replicate}
use Rattle.toml.specs.View.{items_view}
use Rattle.trial.specs.Checks.{over, set_order}
use Rattle.trial.proofs.orders.listed.Given as goal

abbrev pub invariant-loop-index : goal.invariant-loop-index
invariant-loop-index l = record {
  all : length l.orders.items ≡ l.labels;
  rest : over set_order l.index l.orders.items (items_view (drop l.index l.values)) ≡ over set_order 0 (replicate l.labels 0) (items_view l.values);
}
