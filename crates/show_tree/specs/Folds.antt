-- What a picture means by labels that are folded into a label.
use Rattle.std.specs.Prelude.{ℕ, ◌≡◌, true, false, All, List, length, Option, None, Some}
use Rattle.label.specs.Oral.{order_of}
use Rattle.book.specs.Grammar.{is_place}
use Rattle.book.specs.Table.{MessageTable, told}
use Rattle.show_tree.specs.declared.node.Extent.TheVariants.{Folded}
use Rattle.show_tree.specs.declared.node.Trust.TheVariants.{Honest}
use Rattle.show_tree.specs.declared.node.Node.{Node}
use Rattle.combine.specs.declared.outcome.Outcome.{Outcome}
use Rattle.combine.specs.Outcome.{outcome_order}
use Rattle.show_tree.specs.declared.node.View.{View}
use Rattle.show_tree.specs.Facts.{extent_at, outcome_at}
use Rattle.show_tree.specs.Shown.{nodes_below}

-- Returns the order that a label has for its lieutenant: the outcome of his list or, if there is none, the order
-- received.
abbrev pub order_at : Option Outcome → Option ℕ → ℕ
order_at None told = order_of told
order_at (Some outcome) told = outcome_order outcome

-- Returns all labels that extend w by 1 to k generals, with what a picture says about them.
abbrev pub all_below : MessageTable → List ℕ → ℕ → List ℕ → ℕ → List Node
all_below t traitors k w p = nodes_below t traitors (record { depth = k; folds = false; order = None }) k w p

-- States that p received for this label the same as for w, that no lie is known of it, and that its order is `order`.
pub record IsLike (t : MessageTable) (w : List ℕ) (p order : ℕ) (node : Node) : Type 0 where
  pub told : node.told ≡ told t.messages w p
  pub honest : node.mark ≡ Honest
  pub comes : order_at node.outcome node.told ≡ order

-- States that exactly `count` labels extend w by 1 to k generals, and that all of them are like w and have the same
-- order.
pub record IsFold (t : MessageTable) (traitors : List ℕ) (k : ℕ) (w : List ℕ) (p count : ℕ) : Type 0 where
  pub many : count ≡ length (all_below t traitors k w p)
  pub alike : All (IsLike t w p (order_at (outcome_at t k w p) (told t.messages w p))) (all_below t traitors k w p)

-- States that if `count` labels are folded into a label, exactly `count` labels extend it, and all of them are like
-- it.
abbrev pub FoldsAreAlike : Type 0
FoldsAreAlike = (t : MessageTable) (traitors : List ℕ) (view : View) (k : ℕ) (w : List ℕ) (p count : ℕ)
    → is_place t w p ≡ true → extent_at t traitors view k w p ≡ Folded count → IsFold t traitors k w p count
