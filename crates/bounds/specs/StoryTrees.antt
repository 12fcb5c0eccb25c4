-- A lieutenant's tree while it is filled with the messages of a story.
use Rattle.std.specs.Prelude.{ℕ, ◌<◌, ◌≡◌, false, List, length}
use Rattle.label.specs.Labels.{on}
use Rattle.label.specs.Oral.{Messages, IsLabel}
use Rattle.tree.specs.LieutenantTree.{LieutenantTree}
use Rattle.book.specs.Trees.{tree_of}
use Rattle.bounds.specs.Stories.{story_messages}
use Rattle.bounds.specs.declared.story.Story.{Story}

-- States that the tree of general p contains the messages of a story for all labels of fewer than `size` generals.
pub record HoldsBelow (s : Story) (size n m c p : ℕ) (t : LieutenantTree) : Type 0 where
  pub messages : Messages
  pub filled : t ≡ tree_of n m c messages p
  pub told : (w : List ℕ) → IsLabel n c w → on w p ≡ false → length w < size → messages w p ≡ story_messages s c w p
