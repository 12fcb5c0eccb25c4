-- The tree of a lieutenant as a picture in SVG.
use Rattle.std.specs.Prelude.{ℕ, ◌+◌, ◌*◌, max, Bool, if◌then◌else◌, List, [], ◌++◌, length, codes}
use Rattle.std.specs.Fmt.{decimal}
use Rattle.book.specs.Decisions.{decision_of}
use Rattle.book.specs.Table.{MessageTable}
use Rattle.show_tree.specs.declared.node.View.{View}
use Rattle.show_tree.specs.declared.node.DrawnMarks.{DrawnMarks}
use Rattle.show_tree.specs.declared.node.Node.{Node}
use Rattle.show_tree.specs.Legend.{count_of, legend, marks_of}
use Rattle.show_tree.specs.Rows.{rows_from, widest}
use Rattle.show_tree.specs.Shown.{nodes_of}

-- The first attributes of every picture's `svg` element.
unfoldable pub start : List ℕ
start = codes "<svg xmlns=\"http://www.w3.org/2000/svg\" role=\"graphics-document document\""

-- Writes the width and the height of a picture in SVG units.
unfoldable pub size : ℕ → ℕ → List ℕ
size width height = codes " width=\"" ++ (decimal width ++ (codes "\" height=\"" ++ (decimal height ++ codes "\"")))

-- Writes the view box of a picture with this width and height, and ends the opening tag.
unfoldable pub view_box : ℕ → ℕ → List ℕ
view_box width height = codes " viewBox=\"0 0 " ++ (decimal width ++ (codes " " ++ (decimal height ++ codes "\">")))

-- Writes the title of a picture: the lieutenant and his decision.
unfoldable pub title : ℕ → ℕ → List ℕ
title p order = codes "<title>lieutenant " ++ (decimal p ++ (codes " decides " ++ (decimal order ++ codes "</title>")))

-- Writes the heading above the rows: the lieutenant and his decision.
unfoldable pub heading : ℕ → ℕ → List ℕ
heading p order = codes "<text x=\"10\" y=\"24\">lieutenant "
    ++ (decimal p ++ (codes " decides " ++ (decimal order ++ codes "</text>\n")))

-- The start of a picture's description for readers who cannot see it. It explains the rows.
unfoldable pub key_start : List ℕ
key_start =
    codes "<desc>Each row is a label, below the label that it extends, with the order that he received for it."

-- Writes the words if the condition holds, else nothing.
unfoldable pub said_if : Bool → List ℕ → List ℕ
said_if stands words = if stands then words else []

-- Writes sentences that explain the marks that occur in the picture.
abbrev pub shape_words : DrawnMarks → List ℕ
shape_words marks =
    said_if marks.circle (codes " Circle: the message of a general who is not named as a traitor, or who sends what he took.")
    ++ said_if marks.square (codes " Square: the message of a commander who is named as a traitor.")
    ++ said_if marks.diamond (codes " Diamond: a lie.")
    ++ said_if marks.dashes (codes " Dashes: no order has a majority.")

-- Writes the description of a picture for readers who cannot see it.
abbrev pub key : DrawnMarks → List ℕ
key marks = key_start ++ shape_words marks ++ codes "</desc>\n"

-- The style sheet of a picture. The background is white, or dark if the reader prefers a dark one.
unfoldable pub look : List ℕ
look =
    codes "<style>svg{background:#fff}text{fill:#111;font:14px sans-serif}.line{fill:none;stroke:#767676}.told{fill"
    ++ codes ":#fff;stroke:#111}.word{fill:#ffd24d;stroke:#111}.lie{fill:#b00020;stroke:#111}.split{stroke-dasharray:3"
    ++ codes " 2}@media(prefers-color-scheme:dark){svg{background:#111}text{fill:#eee}.told,.word,.lie{stroke:#eee}.to"
    ++ codes "ld{fill:#111}}</style>\n"

-- Writes the head of a picture: the title, the description, the style sheet and the heading.
abbrev pub head : DrawnMarks → ℕ → ℕ → List ℕ
head marks p order = title p order ++ key marks ++ look ++ heading p order

-- Writes a picture of this width and height, with the head and the rows.
abbrev pub picture : ℕ → ℕ → List ℕ → List ℕ → List ℕ
picture width height head rows = start ++ size width height ++ view_box width height ++ head ++ rows ++ codes "</svg>\n"

-- Writes the rows of these labels, and the legend.
abbrev pub inside : ℕ → ℕ → List Node → List ℕ
inside n p nodes = rows_from n p 0 nodes ++ legend nodes

-- Returns the width of a picture of these labels, at least 300 SVG units, which leaves room for the heading and the
-- legend.
abbrev pub breadth : List Node → ℕ
breadth nodes = max 300 (48 + widest nodes)

-- Returns the height of a picture of these labels in SVG units.
abbrev pub tallness : List Node → ℕ
tallness nodes = 64 + 24 * (length nodes + count_of (marks_of nodes))

-- Writes the picture of these labels.
abbrev pub svg_of : MessageTable → ℕ → List Node → List ℕ
svg_of t p nodes =
    picture (breadth nodes) (tallness nodes) (head (marks_of nodes) p (decision_of t p)) (inside t.generals p nodes)

-- Writes the tree of lieutenant p in SVG.
unfoldable pub svg_text : MessageTable → List ℕ → View → ℕ → List ℕ
svg_text t traitors view p = svg_of t p (nodes_of t traitors view p)
