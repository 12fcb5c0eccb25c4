-- The trees that a table keeps, one for each lieutenant.
use Rattle.std.specs.Prelude.{ℕ, ◌≡◌, List, map}
use Rattle.label.specs.Oral.{Messages}
use Rattle.tree.specs.LieutenantTree.{LieutenantTree, levels_told}
use Rattle.book.specs.declared.message.Message.{Message}
use Rattle.book.specs.Table.{AreNumbersWithin, told}
use Rattle.book.specs.Decisions.{lieutenants}

-- Returns the tree of general `p`, with the orders that he received according to the message function `M`.
abbrev pub tree_of : ℕ → ℕ → ℕ → Messages → ℕ → LieutenantTree
tree_of n m c M p = record { generals = n; bound = m; commander = c; general = p; levels = levels_told n c m p M }

-- States that the numbers are within their limits, and that `trees` are the trees of the lieutenants, ascending, with
-- the orders that they received according to the messages.
pub record AreTableTrees (n m c : ℕ) (messages : List Message) (trees : List LieutenantTree) : Type 0 where
  pub within : AreNumbersWithin n m c
  pub filled : trees ≡ map (tree_of n m c (told messages)) (lieutenants n c)
