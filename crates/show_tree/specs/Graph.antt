-- The tree of a lieutenant as a graph, in the language of Graphviz.
use Rattle.std.specs.Prelude.{ℕ, ◌-◌, nat_lt, if◌then◌else◌, List, [], ◌++◌, take, length, codes, Option, Some}
use Rattle.std.specs.Fmt.{decimal}
use Rattle.std.specs.List.{flat_map}
use Rattle.book.specs.Decisions.{decision_of}
use Rattle.book.specs.Explained.{dotted}
use Rattle.book.specs.Table.{MessageTable}
use Rattle.combine.specs.declared.outcome.Outcome.{Outcome}
use Rattle.combine.specs.declared.outcome.Outcome.TheVariants.{Divided}
use Rattle.show_tree.specs.declared.node.Trust.{Trust}
use Rattle.show_tree.specs.declared.node.Trust.TheVariants.{Honest, Traitor, Lie}
use Rattle.show_tree.specs.declared.node.Extent.{Extent}
use Rattle.show_tree.specs.declared.node.Extent.TheVariants.{Last, Open, Folded, Cut}
use Rattle.show_tree.specs.declared.node.Node.{Node}
use Rattle.show_tree.specs.declared.node.View.{View}
use Rattle.show_tree.specs.Shown.{nodes_of}
use Rattle.show_tree.specs.Words.{words}

-- Writes the attributes of a box that is a lie, or whose sender is a commander who is named as a traitor and whose
-- given order is not known.
abbrev pub mark_style : Trust → List ℕ
mark_style Honest = []
mark_style Traitor = codes ", shape=octagon"
mark_style (Lie general took) = codes ", shape=octagon, color=red, penwidth=2"

-- Writes the attribute of a dashed box, if no order has a majority in the label's list.
abbrev pub outcome_style : Option Outcome → List ℕ
outcome_style (Some (Divided order)) = codes ", style=dashed"
outcome_style _ = []

-- Writes the attribute of a box with a double outline, if labels that extend its label are not shown.
abbrev pub extent_style : Extent → List ℕ
extent_style Last = []
extent_style Open = []
extent_style (Folded count) = codes ", peripheries=2"
extent_style (Cut count) = codes ", peripheries=2"

-- Writes the edge to a label from the label that it extends, or nothing for a label of one general.
abbrev pub edge : List ℕ → List ℕ
edge w = if nat_lt (length w) 2 then []
    else codes "  \"" ++ dotted (take (length w - 1) w) ++ codes "\" -> \"" ++ dotted w ++ codes "\";\n"

-- Writes the start of a label's box: its name, and the words in the box.
abbrev pub graph_box : Node → List ℕ
graph_box node = codes "  \"" ++ dotted node.label ++ codes "\" [label=\"" ++ dotted node.label ++ codes "\\n"
    ++ words (codes "\\n") node

-- Writes the attributes of a label's box.
abbrev pub graph_styles : Node → List ℕ
graph_styles node = codes "\"" ++ mark_style node.mark ++ outcome_style node.outcome ++ extent_style node.extent

-- Writes the box of a label, and the edge that leads to it.
abbrev pub graph_node : Node → List ℕ
graph_node node = graph_box node ++ graph_styles node ++ codes "];\n" ++ edge node.label

-- Writes the boxes of these labels, and the edges that lead to them.
abbrev pub graph_nodes : List Node → List ℕ
graph_nodes nodes = flat_map graph_node nodes

-- The first lines of every graph.
unfoldable pub graph_start : List ℕ
graph_start = codes "digraph tree {\n  rankdir=LR;\n  ordering=out;\n  labelloc=t;\n  node [shape=box];\n"

-- Writes the title of a graph: the lieutenant and his decision.
unfoldable pub graph_title : ℕ → ℕ → List ℕ
graph_title p order =
    codes "  label=\"lieutenant " ++ (decimal p ++ (codes " decides " ++ (decimal order ++ codes "\";\n")))

-- Writes the start of a graph: its attributes and its title.
abbrev pub graph_head : ℕ → ℕ → List ℕ
graph_head p order = graph_start ++ graph_title p order

-- Writes the tree of lieutenant p as a graph for Graphviz.
unfoldable pub graph_text : MessageTable → List ℕ → View → ℕ → List ℕ
graph_text t traitors view p = graph_head p (decision_of t p) ++ graph_nodes (nodes_of t traitors view p) ++ codes "}\n"
