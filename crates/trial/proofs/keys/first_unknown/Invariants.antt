use Rattle.std.proofs.Common.{◌≡◌}
use Rattle.toml.specs.View.{members_view, table_view}
use Rattle.trial.specs.Checks.{first_unknown}
use Rattle.trial.proofs.keys.first_unknown.Given as goal

abbrev pub invariant-loop-key : goal.invariant-loop-key
invariant-loop-key l = first_unknown (members_view l.key-iterator) ≡ first_unknown (table_view l.table)
