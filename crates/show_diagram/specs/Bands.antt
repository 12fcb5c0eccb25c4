-- The bands of a diagram. The band of a round shows its accesses to the board, its strokes, and lists of what each
-- lieutenant received.
use Rattle.std.specs.Prelude.{ℕ, ◌+◌, ◌-◌, ◌*◌, ◌==◌, min, if◌then◌else◌, List, [], ◌∷◌, ◌++◌, flat_map, codes}
use Rattle.std.specs.Fmt.{decimal}
use Rattle.std.specs.List.{range_with_len}
use Rattle.board.specs.Board.{Access}
use Rattle.show_diagram.specs.declared.stroke.Stroke.{Stroke}
use Rattle.show_diagram.specs.Layout.{access_top, board, column, fan_top, height, path_of, row_top, rows_top, top_of}
use Rattle.show_diagram.specs.Shapes.{bent_at, group_at, line, mark, text_at, title}
use Rattle.show_diagram.specs.Words.{access_words, access_outline, kind, outline, row_words, shown_words, stroke_words}

-- Writes the heading of a round, such as `round 2`.
unfoldable pub round_words : ℕ → List ℕ
round_words round = codes "round " ++ decimal round

-- Writes a vertical line at the x coordinate `x`, from the top of a band `height` SVG units down.
abbrev pub life : ℕ → ℕ → List ℕ
life x height = line (codes "life") x 0 x height

-- Writes the vertical line in the column of general g.
abbrev pub general_life : ℕ → ℕ → List ℕ
general_life height g = life (column g) height

-- Writes the vertical line in the board's column, or nothing if there are no accesses.
abbrev pub board_line : ℕ → List Access → ℕ → List ℕ
board_line n [] height = []
board_line n (a ∷ accesses) height = life (board n) height

-- Writes the vertical lines of all n generals and of the board.
abbrev pub lives : ℕ → List Access → ℕ → List ℕ
lives n accesses height = board_line n accesses height ++ flat_map (general_life height) (range_with_len 0 n)

-- Writes the drawing of an access: a title, a line to the board `far` SVG units to the right, a point, and the words
-- next to the board.
abbrev pub point : ℕ → Access → List ℕ
point far a =
    title (access_words a) ++ line (codes "access") 0 0 far 0
    ++ mark (codes "point") access_outline
    ++ text_at (codes "small") (far + 12) 4 (shown_words a)

-- Writes an access at the y coordinate `top` of its band, or nothing if it belongs to another round.
abbrev pub access_at : ℕ → ℕ → ℕ → Access → List ℕ
access_at n top round a =
    if a.round == round then group_at (column a.general) top (point (board n - column a.general) a) else []

-- Writes the accesses of a round, in the order in which the board received them. `place` is the index of the first
-- element of the last list among all accesses.
unfoldable pub accesses_from : ℕ → List Access → ℕ → ℕ → List Access → List ℕ
accesses_from n all round place [] = []
accesses_from n all round place (a ∷ rest) =
    access_at n (access_top all round place) round a ++ accesses_from n all round (place + 1) rest

-- Writes the line of a stroke from the sender's column, at the y coordinate `top`, to its row in the receiver's list,
-- which begins at `below`. Its width is the number of labels, but at most 5.
abbrev pub stroke_line : ℕ → ℕ → ℕ → Stroke → List ℕ
stroke_line n top below st = bent_at (kind st) (min st.labels 5) (path_of n top below st) (stroke_words st)

-- Writes the row of a stroke in its receiver's list, which begins at the y coordinate `top`.
abbrev pub row : ℕ → Stroke → List ℕ
row top st =
    group_at (column st.receiver) (row_top top st.row)
    (title (stroke_words st) ++ mark (kind st) (outline st) ++ text_at (codes "small") 12 4 (row_words st))

-- Writes the line of a stroke and its row in the receiver's list, or nothing if it belongs to another round. The
-- strokes begin at the y coordinate `top`, and the lists at `below`.
abbrev pub drawn_at : ℕ → ℕ → ℕ → ℕ → Stroke → List ℕ
drawn_at n top below round st = if st.round == round then stroke_line n top below st ++ row below st else []

-- Writes the line of a stroke and its row in the receiver's list, or nothing if it belongs to another round.
abbrev pub drawn : ℕ → List Access → ℕ → Stroke → List ℕ
drawn n accesses round st = drawn_at n (fan_top accesses round) (rows_top n accesses round) round st

-- Writes the contents of a round's band: a rule, the heading, the vertical lines, the accesses and the strokes.
abbrev pub inside : ℕ → List Stroke → List Access → ℕ → ℕ → List ℕ
inside n strokes accesses wide round =
    line (codes "rule") 16 0 wide 0
    ++ text_at (codes "round") 16 24 (round_words round)
    ++ lives n accesses (height n strokes accesses round)
    ++ accesses_from n accesses round 0 accesses
    ++ flat_map (drawn n accesses round) strokes

-- Writes the band of round `before + 1`.
abbrev pub band : ℕ → List Stroke → List Access → ℕ → ℕ → List ℕ
band n strokes accesses wide before =
    group_at 0 (top_of n strokes accesses before) (inside n strokes accesses wide (before + 1))

-- Writes the bands of the first `rounds` rounds.
abbrev pub bands : ℕ → List Stroke → List Access → ℕ → ℕ → List ℕ
bands n strokes accesses wide rounds = flat_map (band n strokes accesses wide) (range_with_len 0 rounds)
