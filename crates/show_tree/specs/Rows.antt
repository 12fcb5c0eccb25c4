-- The rows of an SVG tree: branches, a shape and a text for each label.
use Rattle.std.specs.Prelude.{ℕ, ◌+◌, ◌-◌, ◌*◌, max, List, [], ◌∷◌, ◌++◌, length, codes, Option, Some}
use Rattle.std.specs.Fmt.{decimal}
use Rattle.std.specs.List.{flat_map, range_with_len}
use Rattle.show_tree.specs.declared.node.Branch.{Branch}
use Rattle.show_tree.specs.declared.node.Branch.TheVariants.{Tee, Corner, Bar, Gap}
use Rattle.show_tree.specs.declared.node.Extent.{Extent}
use Rattle.show_tree.specs.declared.node.Extent.TheVariants.{Open}
use Rattle.show_tree.specs.declared.node.Trust.{Trust}
use Rattle.show_tree.specs.declared.node.Trust.TheVariants.{Honest, Traitor, Lie}
use Rattle.show_tree.specs.declared.node.Node.{Node}
use Rattle.combine.specs.declared.outcome.Outcome.{Outcome}
use Rattle.combine.specs.declared.outcome.Outcome.TheVariants.{Divided}
use Rattle.show_tree.specs.Places.{branch_at}
use Rattle.show_tree.specs.Words.{said}

-- Returns the width of a label's row: 28 SVG units for each general of the label, and 8 for each byte of its text.
abbrev pub reach : Node → ℕ
reach node = 28 * length node.label + 8 * length (said node)

-- Returns the width of the widest row of these labels, or 0 if there are none.
abbrev pub widest : List Node → ℕ
widest [] = 0
widest (node ∷ nodes) = max (reach node) (widest nodes)

-- Writes path data that begins at the top of a row at the x coordinate `left`, and goes on with `steps`.
unfoldable pub way : ℕ → List ℕ → List ℕ
way left steps = codes "M" ++ (decimal left ++ steps)

-- Writes the path data of one branch at the x coordinate `left`, or nothing for a gap.
abbrev pub branch_way : ℕ → Branch → List ℕ
branch_way left Tee = way left (codes " 0v24m0-12h22")
branch_way left Corner = way left (codes " 0v12h22")
branch_way left Bar = way left (codes " 0v24")
branch_way left Gap = []

-- Writes the path data of the branches that lead to the label w.
abbrev pub branch_ways : ℕ → ℕ → List ℕ → List ℕ
branch_ways n p w = flat_map (λ i. branch_way (28 * i) (branch_at n p w i)) (range_with_len 0 (length w - 1))

-- Writes the path data with which the branches to the labels below begin, or nothing if these labels are not shown.
unfoldable pub stub : ℕ → Extent → List ℕ
stub left Open = way left (codes " 18v6")
stub left _ = []

-- Returns the class of a label's shape, by whether its message is known to be a lie.
abbrev pub kind : Trust → List ℕ
kind Honest = codes "told"
kind Traitor = codes "word"
kind (Lie general took) = codes "lie"

-- Returns the second class of a label's shape, if no order has a majority in its list.
abbrev pub outcome_class : Option Outcome → List ℕ
outcome_class (Some (Divided order)) = codes " split"
outcome_class _ = []

-- Returns the path data of a label's shape: a circle, a square or a diamond.
abbrev pub outline : Trust → List ℕ
outline Honest = codes " 6a6 6 0 0 1 0 12a6 6 0 0 1 0-12z"
outline Traitor = codes " 6h6v12h-12v-12z"
outline (Lie general took) = codes " 4l8 8l-8 8l-8-8z"

-- Writes the shape of a label at the x coordinate `left`.
unfoldable pub shape : ℕ → Trust → Option Outcome → List ℕ
shape left mark outcome = codes "<path class=\""
    ++ (kind mark ++ (outcome_class outcome ++ (codes "\" d=\"M" ++ (decimal left ++ (outline mark ++ codes "\"/>")))))

-- Writes the text of a label, to the right of its shape.
unfoldable pub word_text : ℕ → Node → List ℕ
word_text left node = codes "<text x=\"" ++ (decimal left ++ (codes "\" y=\"17\">" ++ (said node ++ codes "</text>")))

-- Writes the start of a row, below `place` other rows.
unfoldable pub row_start : ℕ → List ℕ
row_start place = codes "<g transform=\"translate(16 " ++ (decimal (36 + 24 * place) ++ codes ")\">")

-- The start of the path that draws the branches in a row.
unfoldable pub lines_start : List ℕ
lines_start = codes "<path class=\"line\" d=\""

-- The end of the path that draws the branches in a row.
unfoldable pub lines_end : List ℕ
lines_end = codes "\"/>"

-- The end of a row.
unfoldable pub row_end : List ℕ
row_end = codes "</g>\n"

-- Writes the row of a label, below `place` other rows.
abbrev pub row : ℕ → ℕ → ℕ → Node → List ℕ
row n p place node =
    row_start place ++ lines_start ++ branch_ways n p node.label ++ stub (28 * (length node.label - 1)) node.extent
    ++ lines_end
    ++ shape (28 * (length node.label - 1)) node.mark node.outcome ++ word_text (28 * (length node.label - 1) + 14) node
    ++ row_end

-- Writes the rows of these labels one below another. There are `place` rows above the first of them.
unfoldable pub rows_from : ℕ → ℕ → ℕ → List Node → List ℕ
rows_from n p place [] = []
rows_from n p place (node ∷ nodes) = row n p place node ++ rows_from n p (place + 1) nodes
