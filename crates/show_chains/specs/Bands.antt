-- The bands of a signed campaign's diagram, one for each round, with the accesses and the strokes. A stroke is a line
-- from a sender to a receiver, for the chains with one order.
use Rattle.std.specs.Prelude.{ℕ, ◌+◌, ◌==◌, min, if◌then◌else◌, List, [], ◌++◌, flat_map, codes}
use Rattle.std.specs.List.{range_with_len}
use Rattle.board.specs.Board.{Access}
use Rattle.show_diagram.specs.Bands.{accesses_from, lives, round_words}
use Rattle.show_diagram.specs.Layout.{column, fan_top, height, path_of, row_top, rows_top, top_of}
use Rattle.show_diagram.specs.Shapes.{bent_at, group_at, line, mark, text_at, title}
use Rattle.show_diagram.specs.Words.{kind, outline}
use Rattle.show_diagram.specs.declared.stroke.Stroke.{Stroke}
use Rattle.show_chains.specs.Strokes.{Drawn}
use Rattle.show_chains.specs.Words.{row_words, stroke_words}

-- Returns a stroke's line, from its sender's column at height `top` to its row in the receiver's list, which begins at
-- height `below`. It is as wide as the stroke has chains, but at most 5.
abbrev pub stroke_line : ℕ → ℕ → ℕ → Drawn → List ℕ
stroke_line n top below x =
    let st = x.stroke in bent_at (kind st) (min st.labels 5) (path_of n top below st) (stroke_words x)

-- Returns a stroke's row in the list of what its receiver received.
abbrev pub row : ℕ → Drawn → List ℕ
row top x =
    let st = x.stroke in
    group_at (column st.receiver) (row_top top st.row)
    (title (stroke_words x) ++ mark (kind st) (outline st) ++ text_at (codes "small") 12 4 (row_words x))

-- Returns a stroke's line and its row in the receiver's list if it belongs to this round, otherwise nothing. Strokes
-- begin at height `top`, and lists at height `below`.
abbrev pub drawn_at : ℕ → ℕ → ℕ → ℕ → Drawn → List ℕ
drawn_at n top below round x = if x.stroke.round == round then stroke_line n top below x ++ row below x else []

abbrev pub drawn : ℕ → List Access → ℕ → Drawn → List ℕ
drawn n accesses round x = drawn_at n (fan_top accesses round) (rows_top n accesses round) round x

-- Returns the contents of a round's band of this height, in a diagram of this width.
abbrev pub inside : ℕ → List Drawn → List Access → ℕ → ℕ → ℕ → List ℕ
inside n strokes accesses wide height round =
    line (codes "rule") 16 0 wide 0
    ++ text_at (codes "round") 16 24 (round_words round)
    ++ lives n accesses height
    ++ accesses_from n accesses round 0 accesses
    ++ flat_map (drawn n accesses round) strokes

-- Returns the band of round `before` + 1. `plain` are the strokes without their chains, from which the heights of the
-- bands are computed.
abbrev pub band : ℕ → List Drawn → List Stroke → List Access → ℕ → ℕ → List ℕ
band n strokes plain accesses wide before =
    group_at 0 (top_of n plain accesses before)
    (inside n strokes accesses wide (height n plain accesses (before + 1)) (before + 1))

abbrev pub bands : ℕ → List Drawn → List Stroke → List Access → ℕ → ℕ → List ℕ
bands n strokes plain accesses wide rounds = flat_map (band n strokes plain accesses wide) (range_with_len 0 rounds)
