use Rattle.std.proofs.Common.{◌≡◌}
use Rattle.toml.specs.View.{members_view, table_view}
use Rattle.scenario.specs.Names.{is_top_key}
use Rattle.scenario.specs.Checks.{first_unknown}
use Rattle.scenario.proofs.keys.first_unknown_at_top.Given as goal

abbrev pub invariant-loop-key : goal.invariant-loop-key
invariant-loop-key l = first_unknown is_top_key (members_view l.key-iterator) ≡ first_unknown is_top_key (table_view l.table)
