-- The strokes that a diagram has no room for, because only the first 24 rows are drawn of what a lieutenant received
-- in a round.
use Rattle.std.specs.Prelude.{ℕ, ◌+◌, ◌*◌, ◌==◌, ◌&&◌, nat_le, Bool, if◌then◌else◌, List, [], ◌++◌, codes, count_by, flat_map}
use Rattle.std.specs.Fmt.{decimal}
use Rattle.std.specs.List.{list_any, range_with_len}
use Rattle.board.specs.Board.{Access}
use Rattle.show_diagram.specs.declared.stroke.Stroke.{Stroke}
use Rattle.show_diagram.specs.Layout.{column, rows_top, top_of}
use Rattle.show_diagram.specs.Lists.{is_lie_to, is_to}
use Rattle.show_diagram.specs.Order.{most_rows}
use Rattle.show_diagram.specs.Shapes.{group_at, text_at, title}

-- Returns whether the stroke is not drawn, because its row number is at least 24.
abbrev pub is_past : Stroke → Bool
is_past stroke = nat_le most_rows stroke.row

-- Returns whether at least one of these strokes is not drawn.
abbrev pub is_cut : List Stroke → Bool
is_cut strokes = list_any is_past strokes

-- Returns whether the stroke is in the list of what p received in the round, and is not drawn.
abbrev pub is_left : ℕ → ℕ → Stroke → Bool
is_left round p stroke = is_past stroke && is_to round p stroke

-- Returns whether the stroke is in the list of what p received in the round, is not drawn, and is a lie: a loyal
-- general would send something else.
abbrev pub is_left_lie : ℕ → ℕ → Stroke → Bool
is_left_lie round p stroke = is_past stroke && is_lie_to round p stroke

-- Writes below a list how many strokes, and how many lies among them, are left out, such as `and 3 more, 1
-- dishonest`.
unfoldable pub left_words : ℕ → ℕ → List ℕ
left_words left lies = codes "and " ++ (decimal left ++ (codes " more, " ++ (decimal lies ++ codes " dishonest")))

-- Writes a sentence that says how many strokes of the list of p, and how many lies among them, are left out.
unfoldable pub left_in_full : ℕ → ℕ → ℕ → ℕ → List ℕ
left_in_full p round left lies = codes "general "
    ++ (decimal p ++ (codes " has " ++ (decimal left ++ (codes " more in round "
    ++ (decimal round ++ (codes ", not drawn: in "
    ++ (decimal lies ++ codes " of them a loyal general would do otherwise")))))))

-- The note about lists with more than 24 rows, for readers who cannot see the diagram.
unfoldable pub cut_words : List ℕ
cut_words = codes " A list has at most " ++ (decimal most_rows
    ++ (codes " rows. A longer list begins with the first row of each general in which a "
    ++ (codes "loyal general would do otherwise. The others of this kind follow, and then the rest. Below the list is "
    ++ codes "the number of rows that are not drawn.")))

-- Writes the title and the text that say how many strokes of the list of p are left out.
abbrev pub more_told : ℕ → ℕ → ℕ → ℕ → List ℕ
more_told p round left lies =
    title (left_in_full p round left lies) ++ text_at (codes "small") 12 4 (left_words left lies)

-- Writes how many strokes of the list of p are left out, at the y coordinate `top`. Writes nothing if there are none.
abbrev pub more_at : ℕ → ℕ → ℕ → ℕ → ℕ → List ℕ
more_at top round p left lies =
    if left == 0 then [] else group_at (column p) top (more_told p round left lies)

-- Counts the strokes of the list of p that are left out in a round, and writes their number.
abbrev pub more_of : List Stroke → ℕ → ℕ → ℕ → List ℕ
more_of strokes top round p =
    more_at top round p (count_by (is_left round p) strokes) (count_by (is_left_lie round p) strokes)

-- Returns the y coordinate of the texts about left-out strokes of round `before + 1`, where `drawn` are the strokes
-- that are drawn.
abbrev pub more_top : ℕ → List Stroke → List Access → ℕ → ℕ
more_top n drawn accesses before =
    top_of n drawn accesses before + rows_top n accesses (before + 1) + (12 + 18 * most_rows)

-- Writes for each general how many strokes of his list are left out in a round.
abbrev pub mores_of : ℕ → List Stroke → ℕ → ℕ → List ℕ
mores_of n strokes top round = flat_map (more_of strokes top round) (range_with_len 0 n)

-- Writes for each general how many strokes of his list are left out in round `before + 1`.
abbrev pub mores_in : ℕ → List Stroke → List Stroke → List Access → ℕ → List ℕ
mores_in n strokes drawn accesses before =
    mores_of n strokes (more_top n drawn accesses before) (before + 1)

-- Writes for each general and each of the first `rounds` rounds how many strokes of his list are left out.
abbrev pub mores : ℕ → List Stroke → List Stroke → List Access → ℕ → List ℕ
mores n strokes drawn accesses rounds = flat_map (mores_in n strokes drawn accesses) (range_with_len 0 rounds)
