use Rattle.std.proofs.Common.{◌≡◌, drop}
use Rattle.toml.specs.View.{items_view}
use Rattle.scenario.specs.Sources.{source_among}
use Rattle.scenario.proofs.sources.written_among.Given as goal

-- The tables so far are for other generals.
abbrev pub invariant-loop-index : goal.invariant-loop-index
invariant-loop-index l = source_among l.general (items_view (drop l.index l.values)) ≡ source_among l.general (items_view l.values)
