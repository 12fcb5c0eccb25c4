-- The tree of the orders that lieutenant p received, as nested lists. If a page shows the labels below a label, their
-- list is in a fold, which a reader can open.
use Rattle.std.specs.Prelude.{ℕ, zero, suc, if◌then◌else◌, List, [], ◌∷◌, ◌++◌}
use Rattle.std.specs.List.{flat_map}
use Rattle.label.specs.Labels.{others}
use Rattle.book.specs.Table.{MessageTable}
use Rattle.show_tree.specs.Facts.{mark_at, node_at}
use Rattle.show_tree.specs.Shown.{deeper, is_open, root_node}
use Rattle.show_tree.specs.Words.{said}
use Rattle.show_tree.specs.declared.node.Node.{Node}
use Rattle.show_tree.specs.declared.node.View.{View}
use Rattle.html.specs.Page.{fold, item, list, paragraph, text_item}

-- Writes the list item of a label. `below` contains the items of the labels below it.
abbrev pub label_item : Node → List ℕ → List ℕ
label_item node below = if is_open node.extent then item (fold (said node) (list below)) else text_item (said node)

-- Returns the node of the tree for the message that general j sends p about the label w: its label, and what p
-- received.
abbrev pub node_by : MessageTable → List ℕ → View → ℕ → List ℕ → ℕ → ℕ → Node
node_by t traitors view k w p j = node_at t traitors view (mark_at t traitors w j p) k (w ++ j ∷ []) p

-- Writes the items of the labels that extend the label w by at most k generals, sorted by the next general.
unfoldable pub items_below : MessageTable → List ℕ → View → ℕ → List ℕ → ℕ → List ℕ
items_below t traitors view zero w p = []
items_below t traitors view (suc k) w p =
    flat_map (λ j. label_item (node_by t traitors view k w p j)
    (items_below t traitors (deeper view) k (w ++ j ∷ []) p)) (others t.generals (p ∷ w))

-- Writes the item of the label that extends the label w by general j.
abbrev pub item_by : MessageTable → List ℕ → View → ℕ → List ℕ → ℕ → ℕ → List ℕ
item_by t traitors view k w p j =
    label_item (node_by t traitors view k w p j) (items_below t traitors (deeper view) k (w ++ j ∷ []) p)

-- Writes the commander's message and, if the page shows the labels below it, their list.
abbrev pub root_told : Node → List ℕ → List ℕ
root_told node below = paragraph (said node) ++ (if is_open node.extent then list below else [])

unfoldable pub tree_told : MessageTable → List ℕ → View → ℕ → List ℕ
tree_told t traitors view p =
    root_told (root_node t traitors view p)
    (items_below t traitors (deeper view) t.bound (t.commander ∷ []) p)
