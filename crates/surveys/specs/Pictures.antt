-- The counts of a survey's outcomes as a picture in SVG (own).
use Rattle.std.specs.Prelude.{ℕ, ◌+◌, ◌-◌, ◌*◌, ◌/◌, ◌==◌, nat_lt, min, max, not, Bool, true, false, ◌&&◌, ◌||◌, cond, List, [], ◌∷◌, ◌++◌, flat_map, decimal, codes, Option, None, Some}
use Rattle.std.specs.List.{range_with_len}
use Rattle.surveys.specs.declared.columns.Columns.{Columns}
use Rattle.surveys.specs.declared.group.Group.{Group}

-- Writes the start of every picture: its SVG tag up to its size.
unfoldable pub start : List ℕ
start = codes "<svg xmlns=\"http://www.w3.org/2000/svg\" role=\"img\""

-- Writes the size of a picture, in pixels, in its SVG tag, and ends the tag.
unfoldable pub size : ℕ → ℕ → List ℕ
size width height = codes " width=\""
    ++ (decimal width ++ (codes "\" height=\"" ++ (decimal height ++ (codes "\" viewBox=\"0 0 "
    ++ (decimal width ++ (codes " " ++ (decimal height ++ codes "\">\n")))))))

-- Returns the least number of traitors of these groups, or 14 without groups.
abbrev pub least : List Group → ℕ
least [] = 14
least (g ∷ groups) = min g.traitors (least groups)

-- Returns the greatest number of traitors of these groups plus 1, or 0 without groups.
abbrev pub end_of : List Group → ℕ
end_of [] = 0
end_of (g ∷ groups) = max (g.traitors + 1) (end_of groups)

-- Returns the columns of a picture of these groups: one for each number of traitors from the least to the greatest.
abbrev pub columns_of : List Group → Columns
columns_of groups = record { first = least groups; end = end_of groups }

-- Returns how many columns a picture has.
abbrev pub count : Columns → ℕ
count cs = cs.end - cs.first

-- Returns the x coordinate at which the column of t traitors begins. Each column is 50 pixels wide.
abbrev pub left : Columns → ℕ → ℕ
left cs t = 120 + 50 * (t - cs.first)

-- Returns the width of a picture, with room for its columns and its legend.
abbrev pub width : Columns → ℕ
width cs = max (140 + 50 * count cs) 680

-- Writes the title, the description, the style sheet and the legend of a picture.
unfoldable pub head : List ℕ
head =
    codes "<title>where agreement or obedience is broken</title>\n"
    ++ codes "<desc>Each row is for a number of generals, n, and a bound, m. Each column is for a number of traitors. "
    ++ codes "A bar is the share of these campaigns in which loyal lieutenants do not decide alike, "
    ++ codes "or disobey a loyal commander. "
    ++ codes "Dashes: n = 3m + 1, where m is the number of traitors. Green: the campaign's bound is kept.</desc>\n"
    ++ codes "<style>svg{background:#fff}text{fill:#111;font:14px sans-serif}"
    ++ codes ".bar{fill:#b00020}.base,.limit{fill:none;stroke:#767676}"
    ++ codes ".limit{stroke:#0b57d0;stroke-width:2;stroke-dasharray:6 3}"
    ++ codes ".kept{fill:#d7f0da}.share{font-size:12px;text-anchor:middle}"
    ++ codes "@media(prefers-color-scheme:dark){svg{background:#111}text{fill:#eee}"
    ++ codes ".bar{fill:#ff6b7a}.limit{stroke:#8ab4f8}"
    ++ codes ".kept{fill:#143d1b}}</style>\n"
    ++ codes "<text x=\"10\" y=\"24\">campaigns in which agreement is broken or the order disobeyed, "
    ++ codes "by the number of traitors</text>\n"
    ++ codes "<text x=\"10\" y=\"46\">dashes: n = 3m + 1, where m is the number of traitors; "
    ++ codes "green: within the campaign's bound</text>\n"
    ++ codes "<text x=\"10\" y=\"84\">traitors</text>\n"

-- Writes the number of traitors above its column.
unfoldable pub column : Columns → ℕ → List ℕ
column cs t = codes "<text class=\"share\" x=\""
    ++ (decimal (left cs t + 25) ++ (codes "\" y=\"84\">" ++ (decimal t ++ codes "</text>\n")))

-- Writes the numbers of traitors above the columns.
abbrev pub column_heads : Columns → List ℕ
column_heads cs = flat_map (column cs) (range_with_len cs.first (count cs))

-- Checks whether a group begins a row of the picture. It does if it is the first group, or if the group before it has
-- another number of generals or another bound.
abbrev pub begins : Option Group → Group → Bool
begins None g = true
begins (Some b) g = not (b.generals == g.generals) || not (b.bound == g.bound)

-- Returns how many rows of the picture begin in these groups. `before` is the group before them, if there is one.
abbrev pub rows_from : Option Group → List Group → ℕ
rows_from before [] = 0
rows_from before (g ∷ groups) = cond (begins before g) 1 0 + rows_from (Some g) groups

-- Returns how many rows the picture of these groups has.
abbrev pub rows_of : List Group → ℕ
rows_of groups = rows_from None groups

-- Writes the start of the label of row `row`: an SVG tag with its position. Rows are counted from 1.
unfoldable pub stand : ℕ → List ℕ
stand row = codes "<text x=\"10\" y=\"" ++ (decimal (72 + 44 * row) ++ codes "\">")

-- Writes the text of a row's label, such as `n = 4, m = 1`: the number of generals and the bound.
unfoldable pub name : Group → List ℕ
name g = codes "n = " ++ (decimal g.generals ++ (codes ", m = " ++ (decimal g.bound ++ codes "</text>")))

-- Writes the horizontal line below the bars of a row, which is as long as all columns are wide.
unfoldable pub base : Columns → ℕ → List ℕ
base cs row = codes "<path class=\"base\" d=\"M120 "
    ++ (decimal (74 + 44 * row) ++ (codes "h" ++ (decimal (50 * count cs) ++ codes "\"/>")))

-- Returns the x coordinate of a row's dashed line. It is left of the columns of the numbers of traitors t for which n
-- generals are at most 3t, and right of the others.
abbrev pub limit_left : Columns → ℕ → ℕ
limit_left cs n = min (left cs ((n - 1) / 3 + 1)) (120 + 50 * count cs)

-- Writes the dashed vertical line of a row.
unfoldable pub limit : Columns → ℕ → Group → List ℕ
limit cs row g = codes "<path class=\"limit\" d=\"M"
    ++ (decimal (limit_left cs g.generals)
    ++ (codes " " ++ (decimal (44 + 44 * row) ++ codes "v44\"/>\n")))

-- Writes the label, the base line and the dashed line of a row.
abbrev pub label : Columns → ℕ → Group → List ℕ
label cs row g = stand row ++ name g ++ base cs row ++ limit cs row g

-- Writes the label and the lines of a row if the group begins this row, and otherwise nothing.
abbrev pub start_of : Columns → ℕ → Group → Bool → List ℕ
start_of cs row g true = label cs row g
start_of cs row g false = []

-- Writes the green background of a group's cell, if the bound holds in some of the group's campaigns.
unfoldable pub kept : Columns → ℕ → Group → List ℕ
kept cs row g =
    cond (g.sums.kept.count == 0) []
    (codes "<rect class=\"kept\" x=\""
    ++ (decimal (left cs g.traitors)
    ++ (codes "\" y=\"" ++ (decimal (44 + 44 * row) ++ codes "\" width=\"50\" height=\"44\"/>\n"))))

-- Returns the part of `whole` that is as large as the share of the failed campaigns in a group, rounded down. It is 0
-- if the group has no campaigns.
abbrev pub share_of : ℕ → Group → ℕ
share_of whole g = cond (g.sums.campaigns == 0) 0 (g.failed * whole / g.sums.campaigns)

-- Writes the title of a group's cell, such as `3 of 20`: how many of the group's campaigns failed.
unfoldable pub counts : Group → List ℕ
counts g = codes "<g><title>" ++ (decimal g.failed ++ (codes " of " ++ (decimal g.sums.campaigns ++ codes "</title>")))

-- Writes the start of the SVG tag of a group's bar, up to its horizontal position.
unfoldable pub side : Columns → Group → List ℕ
side cs g = codes "<rect class=\"bar\" x=\"" ++ (decimal (left cs g.traitors + 5) ++ codes "\"")

-- Writes the end of a bar's SVG tag: its vertical position, its width and its height, in pixels.
unfoldable pub rise : ℕ → ℕ → List ℕ
rise row height = codes " y=\""
    ++ (decimal (74 + 44 * row - height) ++ (codes "\" width=\"40\" height=\"" ++ (decimal height ++ codes "\"/></g>")))

-- Writes the bar of a group's cell in row `row`.
abbrev pub bar : Columns → ℕ → Group → List ℕ
bar cs row g = side cs g ++ rise row (share_of 28 g)

-- Writes the share of a group's failed campaigns in per cent, rounded down. If only some failed, but less than 1 per
-- cent, it is `<1%`, escaped for XML.
unfoldable pub percent : Group → List ℕ
percent g = cond (share_of 100 g == 0 && nat_lt 0 g.failed) (codes "&lt;1%") (decimal (share_of 100 g) ++ codes "%")

-- Writes the start of the label below a group's bar: an SVG tag with its position.
unfoldable pub place : Columns → ℕ → Group → List ℕ
place cs row g = codes "<text class=\"share\" x=\""
    ++ (decimal (left cs g.traitors + 25) ++ (codes "\" y=\"" ++ (decimal (85 + 44 * row) ++ codes "\">")))

-- Writes the cell of a group in row `row`: its title, its bar and its label.
abbrev pub cell : Columns → ℕ → Group → List ℕ
cell cs row g = counts g ++ bar cs row g ++ place cs row g ++ percent g ++ codes "</text>\n"

-- Writes the backgrounds of the groups' cells, which are drawn below everything else. `row` is the number of rows
-- before these groups, and `before` is the group before them, if there is one.
abbrev pub grounds : Columns → ℕ → Option Group → List Group → List ℕ
grounds cs row before [] = []
grounds cs row before (g ∷ groups) =
    let here = row + cond (begins before g) 1 0 in
    kept cs here g ++ grounds cs here (Some g) groups

-- Writes the groups' cells, with the label and the lines of each row. `row` is the number of rows before these groups,
-- and `before` is the group before them, if there is one.
abbrev pub cells : Columns → ℕ → Option Group → List Group → List ℕ
cells cs row before [] = []
cells cs row before (g ∷ groups) =
    let here = row + cond (begins before g) 1 0 in
    start_of cs here g (begins before g) ++ cell cs here g ++ cells cs here (Some g) groups

-- Writes the picture of these groups in SVG.
unfoldable pub picture_text : List Group → List ℕ
picture_text groups =
    let cs = columns_of groups in
    start ++ size (width cs) (94 + 44 * rows_of groups) ++ head ++ column_heads cs ++ grounds cs 0 None groups
    ++ cells cs 0 None groups ++ codes "</svg>\n"
