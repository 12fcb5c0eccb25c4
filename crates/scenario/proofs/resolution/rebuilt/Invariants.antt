use Rattle.std.proofs.Common.{◌≡◌, option_map}
use Rattle.toml.specs.View.{members_view, table_view, view}
use Rattle.scenario.specs.Resolved.{entries, rebuilt}
use Rattle.scenario.proofs.resolution.rebuilt.Given as goal

abbrev pub invariant-loop-key : goal.invariant-loop-key
invariant-loop-key l =
    entries l.files (option_map (λ v. view v.now) l.general) (table_view l.table) (table_view l.done) (members_view l.key-iterator)
    ≡ rebuilt l.files (option_map (λ v. view v.now) l.general) (table_view l.table)
