-- The drawn tree of a lieutenant, from a message table or its text.
use Rattle.std.specs.Prelude.{ℕ, nat_lt, ◌≡◌, ◌==◌, ◌&&◌, not, if◌then◌else◌, List, [], Ok}
use Rattle.book.specs.Grammar.{table_told}
use Rattle.book.specs.Table.{MessageTable}
use Rattle.show_tree.specs.Graph.{graph_text}
use Rattle.show_tree.specs.Lines.{tree_text}
use Rattle.show_tree.specs.Svg.{svg_text}
use Rattle.show_tree.specs.declared.form.TreeForm.{TreeForm}
use Rattle.show_tree.specs.declared.form.TreeForm.TheVariants.{Lines, Graph, Svg}
use Rattle.show_tree.specs.declared.node.View.{View}

-- Writes the tree of lieutenant p in the given form.
abbrev pub picture : MessageTable → List ℕ → View → TreeForm → ℕ → List ℕ
picture t traitors view (Lines style) p = tree_text t traitors view style p
picture t traitors view Graph p = graph_text t traitors view p
picture t traitors view Svg p = svg_text t traitors view p

-- Writes the tree of general p in the given form, or nothing if he is not a lieutenant.
abbrev pub drawn : MessageTable → List ℕ → View → TreeForm → ℕ → List ℕ
drawn t traitors view form p =
    if nat_lt p t.generals && not (p == t.commander) then picture t traitors view form p else []

-- States that the text contains a message table, and that `drawing` is the tree of general p by this table.
abbrev pub DrawsTable : List ℕ → List ℕ → View → TreeForm → ℕ → List ℕ → Type 0
DrawsTable text traitors view form p drawing =
    (table : MessageTable) × (table_told text ≡ Ok table) × (drawing ≡ drawn table traitors view form p)
