-- The legend in a diagram's foot. It has a row for each mark that occurs in the diagram, and no other rows.
use Rattle.std.specs.Prelude.{ℕ, ◌+◌, ◌*◌, nat_lt, Bool, true, false, not, ◌&&◌, if◌then◌else◌, is_some, List, [], ◌++◌, length, codes, count_by, None, Some}
use Rattle.std.specs.List.{list_any}
use Rattle.board.specs.Board.{Access}
use Rattle.label.specs.Labels.{generals}
use Rattle.round.specs.Scenario.{Scenario, is_traitor}
use Rattle.show_diagram.specs.declared.mark.DiagramMarks.{DiagramMarks}
use Rattle.show_diagram.specs.declared.stroke.Stroke.{Stroke}
use Rattle.show_diagram.specs.Shapes.{group_at, mark, said_if, shape_of, stroke_at, text_at}
use Rattle.show_diagram.specs.Words.{access_outline, outline_of}

-- Returns whether a stroke is marked with a circle: a faithful general would send the same.
abbrev pub has_circle : Stroke → Bool
has_circle stroke = not stroke.differs

-- Returns whether a stroke is marked with a diamond: an order was sent that a faithful general would not send.
abbrev pub has_diamond : Stroke → Bool
has_diamond stroke = stroke.differs && is_some stroke.told

-- Returns whether a stroke is marked with a cross: nothing was sent, but a faithful general sends an order.
abbrev pub has_cross : Stroke → Bool
has_cross stroke = stroke.differs && not (is_some stroke.told)

-- Returns the number of traitors in a scenario.
abbrev pub traitors : Scenario → ℕ
traitors s = count_by (is_traitor s) (generals s.generals)

-- Returns which marks occur in a diagram with these accesses and strokes.
abbrev pub marks_of : Scenario → List Access → List Stroke → DiagramMarks
marks_of s accesses strokes = record {
  circle = list_any has_circle strokes;
  diamond = list_any has_diamond strokes;
  cross = list_any has_cross strokes;
  square = nat_lt 0 (traitors s);
  loyal = nat_lt (traitors s) s.generals;
  point = nat_lt 0 (length accesses);
}

-- Returns 1 if the condition holds, else 0.
abbrev pub one_if : Bool → ℕ
one_if stands = if stands then 1 else 0

-- Returns the number of rows that the legend needs for circle, diamond and cross, the marks of strokes.
abbrev pub stroke_rows : DiagramMarks → ℕ
stroke_rows marks = one_if marks.circle + one_if marks.diamond + one_if marks.cross

-- Returns the number of rows that the legend needs, one for each mark that occurs.
abbrev pub rows : DiagramMarks → ℕ
rows marks = stroke_rows marks + one_if marks.square + one_if marks.loyal + one_if marks.point

-- Returns the height of a diagram's foot, with its legend, in SVG units.
abbrev pub foot_height : DiagramMarks → ℕ
foot_height marks = 152 + 20 * rows marks

-- Writes a row of the legend at the y coordinate `y`: a sample stroke with its mark, and the meaning.
abbrev pub meaning_at : ℕ → List ℕ → List ℕ → List ℕ → List ℕ
meaning_at y kind outline words =
    group_at 120 y
    (stroke_at kind 2 0 0 45 0 words ++ group_at 52 0 (mark kind outline ++ text_at (codes "small") 12 4 words))

-- Writes a row of the legend at the y coordinate `y`: a mark without a stroke, and the meaning.
abbrev pub shape_at : ℕ → List ℕ → List ℕ → List ℕ → List ℕ
shape_at y kind outline words = group_at 172 y (mark kind outline ++ text_at (codes "small") 12 4 words)

-- Writes row `place` of the legend, with a sample stroke, or nothing if the mark does not occur.
abbrev pub meaning_if : Bool → ℕ → List ℕ → List ℕ → List ℕ → List ℕ
meaning_if stands place kind outline words = if stands then meaning_at (132 + 20 * place) kind outline words else []

-- Writes row `place` of the legend, without a stroke, or nothing if the mark does not occur.
abbrev pub shape_if : Bool → ℕ → List ℕ → List ℕ → List ℕ → List ℕ
shape_if stands place kind outline words = if stands then shape_at (132 + 20 * place) kind outline words else []

-- Writes the legend's rows for circle, diamond and cross, with the words `told`, `differs` and `missing`.
abbrev pub stroke_meanings : DiagramMarks → List ℕ → List ℕ → List ℕ → List ℕ
stroke_meanings marks told differs missing =
    meaning_if marks.circle 0 (codes "told key") (outline_of false None) told
    ++ meaning_if marks.diamond (one_if marks.circle) (codes "lie key") (outline_of true (Some 0)) differs
    ++ meaning_if marks.cross (one_if marks.circle + one_if marks.diamond) (codes "none key") (outline_of true None)
    missing

-- Writes the legend's rows for traitors, loyal generals and accesses, from row `place` on.
abbrev pub shape_meanings : DiagramMarks → ℕ → List ℕ
shape_meanings marks place =
    shape_if marks.square place (codes "traitor key") (shape_of true) (codes "a traitor")
    ++ shape_if marks.loyal (place + one_if marks.square) (codes "loyal key") (shape_of false)
    (codes "a loyal general")
    ++ shape_if marks.point (place + one_if marks.square + one_if marks.loyal) (codes "point key")
    access_outline (codes "an access to the board")

-- Writes a legend: the meaning of each mark that occurs, and the meaning `wide` of a line's width.
abbrev pub legend_of : DiagramMarks → List ℕ → List ℕ → List ℕ → List ℕ → List ℕ
legend_of marks told differs missing wide =
    stroke_meanings marks told differs missing
    ++ shape_meanings marks (stroke_rows marks)
    ++ text_at (codes "small") 120 (136 + 20 * rows marks) wide

-- Writes sentences that explain the marks of generals and accesses, for readers who cannot see the diagram.
abbrev pub shape_key : DiagramMarks → List ℕ
shape_key marks =
    said_if marks.point (codes " Above the lines are the accesses to the board, in its order.")
    ++ said_if marks.square (codes " Square: a traitor.")
    ++ said_if marks.loyal (codes " Circle at a name: a loyal general.")

-- The legend's words for a circle in a diagram for oral messages: the sender is faithful.
unfoldable pub told_meaning : List ℕ
told_meaning = codes "sent as an honest relay sends it"

-- The legend's words for a diamond in a diagram for oral messages: a faithful general would send another order.
unfoldable pub differs_meaning : List ℕ
differs_meaning = codes "sent, but an honest relay would send something else"

-- The legend's words for a cross in a diagram for oral messages: a faithful general would send an order.
unfoldable pub missing_meaning : List ℕ
missing_meaning = codes "nothing sent, but an order should be sent"

-- The legend's words for the width of a line in a diagram for oral messages.
unfoldable pub wide_meaning : List ℕ
wide_meaning = codes "A line leads down to its row. Its width is its number of labels, up to 5."

-- Writes the legend of a diagram for oral messages.
abbrev pub legend : DiagramMarks → List ℕ
legend marks = legend_of marks told_meaning differs_meaning missing_meaning wide_meaning
