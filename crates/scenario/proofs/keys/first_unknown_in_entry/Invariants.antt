use Rattle.std.proofs.Common.{◌≡◌}
use Rattle.toml.specs.View.{members_view, table_view}
use Rattle.scenario.specs.Names.{is_entry_key}
use Rattle.scenario.specs.Checks.{first_unknown}
use Rattle.scenario.proofs.keys.first_unknown_in_entry.Given as goal

abbrev pub invariant-loop-key : goal.invariant-loop-key
invariant-loop-key l = first_unknown is_entry_key (members_view l.key-iterator) ≡ first_unknown is_entry_key (table_view l.table)
