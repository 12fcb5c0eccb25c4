-- The legend of an SVG tree. It is below the rows of labels, and has a row for each mark that occurs in the picture,
-- and no other rows.
use Rattle.std.specs.Prelude.{ℕ, ◌+◌, Bool, true, false, ◌&&◌, if◌then◌else◌, List, [], ◌++◌, length, codes, Option, None, Some}
use Rattle.std.specs.List.{list_any}
use Rattle.combine.specs.declared.outcome.Outcome.{Outcome}
use Rattle.combine.specs.declared.outcome.Outcome.TheVariants.{Divided}
use Rattle.show_tree.specs.declared.node.Trust.{Trust}
use Rattle.show_tree.specs.declared.node.Trust.TheVariants.{Honest, Traitor, Lie}
use Rattle.show_tree.specs.declared.node.DrawnMarks.{DrawnMarks}
use Rattle.show_tree.specs.declared.node.Node.{Node}
use Rattle.show_tree.specs.Facts.{is_honest}
use Rattle.show_tree.specs.Rows.{row_end, row_start, shape}

-- Returns whether a message is from a commander who is named as a traitor and whose given order is not known.
abbrev pub is_word : Trust → Bool
is_word Traitor = true
is_word _ = false

-- Returns whether a message is known to be a lie.
abbrev pub is_lie : Trust → Bool
is_lie (Lie general took) = true
is_lie _ = false

-- Returns whether no order has a majority in a list.
abbrev pub is_divided : Option Outcome → Bool
is_divided (Some (Divided order)) = true
is_divided _ = false

-- Returns whether a label is drawn as a circle: its message is not known to be a lie.
abbrev pub has_circle : Node → Bool
has_circle node = is_honest node.mark

-- Returns whether a label is drawn as a square: its message is from a commander who is named as a traitor and whose
-- given order is not known.
abbrev pub has_square : Node → Bool
has_square node = is_word node.mark

-- Returns whether a label is drawn as a diamond: its message is a lie.
abbrev pub has_diamond : Node → Bool
has_diamond node = is_lie node.mark

-- Returns whether a label has a dashed outline: no order has a majority in its list.
abbrev pub has_dashes : Node → Bool
has_dashes node = is_divided node.outcome

-- Returns whether a label is drawn as a dashed circle.
abbrev pub has_dashed_circle : Node → Bool
has_dashed_circle node = has_dashes node && has_circle node

-- Returns whether a label is drawn as a dashed square.
abbrev pub has_dashed_square : Node → Bool
has_dashed_square node = has_dashes node && has_square node

-- Returns the mark at which the legend explains dashes: a circle if one of these labels has a dashed circle, else a
-- square if one has a dashed square, else a diamond.
abbrev pub dashed_shape : List Node → Trust
dashed_shape nodes =
    if list_any has_dashed_circle nodes then Honest
    else if list_any has_dashed_square nodes then Traitor
    else Lie 0 0

-- Returns which marks occur in a picture of these labels.
abbrev pub marks_of : List Node → DrawnMarks
marks_of nodes = record {
  circle = list_any has_circle nodes;
  square = list_any has_square nodes;
  diamond = list_any has_diamond nodes;
  dashes = list_any has_dashes nodes;
}

-- Returns 1 if the condition holds, else 0.
abbrev pub one_if : Bool → ℕ
one_if stands = if stands then 1 else 0

-- Returns how many of the marks occur, at most 4.
abbrev pub count_of : DrawnMarks → ℕ
count_of marks = one_if marks.circle + one_if marks.square + one_if marks.diamond + one_if marks.dashes

-- Writes the words for a mark, to the right of the mark.
unfoldable pub meaning_words : List ℕ → List ℕ
meaning_words words = codes "<text x=\"14\" y=\"17\">" ++ (words ++ codes "</text>")

-- Writes a row of the legend: a mark and its meaning, below `place` other rows.
abbrev pub meaning : ℕ → Trust → Option Outcome → List ℕ → List ℕ
meaning place mark outcome words = row_start place ++ shape 0 mark outcome ++ meaning_words words ++ row_end

-- Writes a row of the legend, or nothing if its mark does not occur.
abbrev pub meaning_if : Bool → ℕ → Trust → Option Outcome → List ℕ → List ℕ
meaning_if stands place mark outcome words = if stands then meaning place mark outcome words else []

-- Writes the meanings of the marks that occur, one row each. There are `place` rows above the first of them. Dashes
-- are shown at the shape of `dashed`.
abbrev pub meanings : DrawnMarks → Trust → ℕ → List ℕ
meanings marks dashed place =
    meaning_if marks.circle place Honest None (codes "no lie is known")
    ++ meaning_if marks.square (place + one_if marks.circle) Traitor None (codes "the message of a named commander")
    ++ meaning_if marks.diamond (place + one_if marks.circle + one_if marks.square) (Lie 0 0) None
    (codes "a lie of a named traitor")
    ++ meaning_if marks.dashes (place + one_if marks.circle + one_if marks.square + one_if marks.diamond) dashed
    (Some (Divided 0))
    (codes "no order has a majority")

-- The horizontal rule between the rows of labels and the legend.
unfoldable pub rule : List ℕ
rule = codes "<path class=\"line\" d=\"M0 12h240\"/>"

-- Writes the row with the horizontal rule, below `place` other rows.
abbrev pub rule_at : ℕ → List ℕ
rule_at place = row_start place ++ rule ++ row_end

-- Writes the legend for a picture of these labels: a rule, and the meanings of the marks that occur.
abbrev pub legend : List Node → List ℕ
legend nodes = rule_at (length nodes) ++ meanings (marks_of nodes) (dashed_shape nodes) (length nodes + 1)
