use Rattle.std.proofs.Common.{◌≡◌, map, ◌∷◌, []}
use Rattle.label.specs.Labels.{others}
use Rattle.book.specs.Trees.{tree_of}
use Rattle.bounds.specs.Stories.{story_messages}
use Rattle.bounds.proofs.story_trees.story_trees.Given as goal

abbrev pub invariant-loop-general : goal.invariant-loop-general
invariant-loop-general l =
    l.trees.items ≡ map (tree_of l.generals l.bound l.commander (story_messages l.story l.commander)) (others l.general (l.commander ∷ []))
