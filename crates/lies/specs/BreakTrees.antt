-- The messages of a break that was found, and the tree of a lieutenant while it is filled with them.
use Rattle.std.specs.Prelude.{ℕ, ◌<◌, ◌≡◌, false, List, length}
use Rattle.label.specs.Labels.{on}
use Rattle.label.specs.Oral.{Messages, IsLabel}
use Rattle.tree.specs.LieutenantTree.{LieutenantTree}
use Rattle.book.specs.Trees.{tree_of}
use Rattle.lies.specs.declared.found.Found.{Found}
use Rattle.lies.specs.PlannedMessages.{planned}

-- Returns the messages of a break by OM(m) among n generals under the commander c.
abbrev pub messages_of : (List ℕ → ℕ) → ℕ → ℕ → ℕ → Found → Messages
messages_of f n m c found =
    planned f (on found.traitors.items) n m c found.success.attempt.sender found.success.attempt.aims

-- States that a tree of general p has the messages of N about all labels of fewer than `size` generals.
pub record HoldsBelow (N : Messages) (size n m c p : ℕ) (t : LieutenantTree) : Type 0 where
  pub messages : Messages
  pub filled : t ≡ tree_of n m c messages p
  pub told : (w : List ℕ) → IsLabel n c w → on w p ≡ false → length w < size → messages w p ≡ N w p
