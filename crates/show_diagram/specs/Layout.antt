-- The positions of a diagram's parts in SVG units. There is a column for each general and for the board, and a band
-- for each round.
use Rattle.std.specs.Prelude.{ℕ, zero, suc, ◌+◌, ◌-◌, ◌*◌, ◌==◌, nat_lt, Bool, max, min, if◌then◌else◌, List, [], ◌∷◌, length, count_by}
use Rattle.board.specs.Board.{Access}
use Rattle.show_diagram.specs.declared.stroke.Stroke.{Stroke}
use Rattle.show_diagram.specs.declared.stroke.StrokePath.{StrokePath}
use Rattle.show_diagram.specs.Words.{shown_words}

-- Returns the x coordinate of the column of general g.
abbrev pub column : ℕ → ℕ
column g = 120 + 248 * g

-- Returns the x coordinate of the board's column, to the right of the columns of n generals.
abbrev pub board : ℕ → ℕ
board n = 120 + 248 * n

-- Returns the room that the words of an access need, to the right of the board: 28 SVG units, and 8 for each byte.
abbrev pub room : Access → ℕ
room a = 28 + 8 * length (shown_words a)

-- Returns the room that the longest words of these accesses need, or 0 without accesses.
abbrev pub widest : List Access → ℕ
widest [] = 0
widest (a ∷ accesses) = max (room a) (widest accesses)

-- Returns the width of a diagram, at least 760 SVG units, which leaves room for the headline and the legend.
abbrev pub width : ℕ → List Access → ℕ
width n accesses = max 760 (board n + widest accesses)

-- Returns whether an access belongs to the round.
abbrev pub is_in : ℕ → Access → Bool
is_in round a = a.round == round

-- Returns whether an access belongs to an earlier round.
abbrev pub is_earlier : ℕ → Access → Bool
is_earlier round a = nat_lt a.round round

-- Returns the y coordinate, within the band of its round, of the access with index `place` among all accesses.
abbrev pub access_top : List Access → ℕ → ℕ → ℕ
access_top accesses round place = 16 + 20 * (place - count_by (is_earlier round) accesses)

-- Returns the y coordinate within a round's band at which its strokes begin.
abbrev pub fan_top : List Access → ℕ → ℕ
fan_top accesses round = 24 + 20 * count_by (is_in round) accesses

-- Returns the y coordinate within a round's band at which the lists of what each lieutenant received begin.
abbrev pub rows_top : ℕ → List Access → ℕ → ℕ
rows_top n accesses round = fan_top accesses round + 72 + 16 * n

-- Returns the y coordinate of row `row` in a list that begins at the y coordinate `below`.
abbrev pub row_top : ℕ → ℕ → ℕ
row_top below row = below + 12 + 18 * row

-- Returns the x coordinate, to the left of the column of general p, at which the stroke of row `row` leads down to its
-- row. The first three rows each have a lane of their own.
abbrev pub lane : ℕ → ℕ → ℕ
lane p row = column p - (15 + 3 * min row 3)

-- Returns the path of a stroke: from the column of its sender, at the y coordinate `top`, to the lane of its row, down
-- to this row of the receiver's list, and to the row's mark. The list begins at the y coordinate `below`.
abbrev pub path_of : ℕ → ℕ → ℕ → Stroke → StrokePath
path_of n top below st = record {
  left = column st.teller;
  top = top;
  lane = lane st.receiver st.row;
  turn = top + 16 + 16 * n + 6 * min st.row 8;
  row = row_top below st.row;
  tip = column st.receiver - 7;
}

-- Returns how many rows a list needs to show this stroke, or 0 if it belongs to another round.
abbrev pub reach : ℕ → Stroke → ℕ
reach round stroke = if stroke.round == round then stroke.row + 1 else 0

-- Returns the number of rows in the longest list of a round.
abbrev pub most : ℕ → List Stroke → ℕ
most round [] = 0
most round (stroke ∷ strokes) = max (reach round stroke) (most round strokes)

-- Returns the height of a round's band.
abbrev pub height : ℕ → List Stroke → List Access → ℕ → ℕ
height n strokes accesses round = rows_top n accesses round + 20 + 18 * most round strokes

-- Returns the y coordinate at which the band of round `rounds + 1` begins.
unfoldable pub top_of : ℕ → List Stroke → List Access → ℕ → ℕ
top_of n strokes accesses zero = 80
top_of n strokes accesses (suc rounds) = top_of n strokes accesses rounds + height n strokes accesses (suc rounds)
