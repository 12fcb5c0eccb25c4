use Rattle.std.proofs.Common.{◌≡◌, map, ◌∷◌, []}
use Rattle.label.specs.Labels.{others}
use Rattle.book.specs.Table.{told}
use Rattle.book.specs.Trees.{tree_of}
use Rattle.book.proofs.table.Table.open.Given as goal

abbrev pub invariant-loop-general : goal.invariant-loop-general
invariant-loop-general l = l.trees.items ≡ map (tree_of l.generals l.bound l.commander (told [])) (others l.general (l.commander ∷ []))
