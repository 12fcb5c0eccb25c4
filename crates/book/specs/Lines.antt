-- The lines that list the decisions of a table.
use Rattle.std.specs.Prelude.{ℕ, List, ◌++◌, codes}
use Rattle.std.specs.Fmt.{decimal}
use Rattle.std.specs.List.{flat_map}
use Rattle.label.specs.Lieutenants.{lieutenants}
use Rattle.book.specs.Decisions.{decision_of}
use Rattle.book.specs.Table.{MessageTable}

-- Writes the line of a lieutenant and his decision.
abbrev pub decision_line : ℕ → ℕ → List ℕ
decision_line general order = codes "decision " ++ decimal general ++ codes " " ++ decimal order ++ codes "\n"

-- Writes a line for each lieutenant of the table, in ascending order.
unfoldable pub decision_lines : MessageTable → List ℕ
decision_lines table =
    flat_map (λ general. decision_line general (decision_of table general)) (lieutenants table.generals table.commander)
