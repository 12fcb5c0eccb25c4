-- The counts of a survey's outcomes as a table (own).
use Rattle.std.specs.Prelude.{ℕ, ◌-◌, List, [], ◌∷◌, ◌++◌, length, flat_map, decimal, codes, replicate, Option, None, Some}
use Rattle.surveys.specs.declared.cell.NumberCell.{NumberCell}
use Rattle.surveys.specs.declared.group.Group.{Group}

-- Writes a number in decimal, or `-` for `None`.
abbrev pub number_text : Option ℕ → List ℕ
number_text None = codes "-"
number_text (Some number) = decimal number

-- Writes a text with spaces before it up to a width of `width` bytes. A longer text is written as it is.
abbrev pub padded : ℕ → List ℕ → List ℕ
padded width text = replicate (width - length text) 32 ++ text

-- Writes a space and then a cell, right-aligned in its column. An empty cell is written as `-`.
abbrev pub cell_text : NumberCell → List ℕ
cell_text c = codes " " ++ padded c.width (number_text c.number)

-- Writes the cells, each after a space, and a line feed.
abbrev pub row_text : List NumberCell → List ℕ
row_text cells = flat_map cell_text cells ++ codes "\n"

-- Returns the cell with this width and this number, or an empty cell for `None`.
abbrev pub cell : ℕ → Option ℕ → NumberCell
cell width number = record { width = width; number = number }

-- Returns the cells of a group's row: generals, bound, traitors and campaigns, the count and the least seed of each
-- outcome, and the number of failed campaigns.
abbrev pub cells_of : Group → List NumberCell
cells_of g =
    cell 8 (Some g.generals) ∷ cell 5 (Some g.bound) ∷ cell 8 (Some g.traitors) ∷ cell 9 (Some g.sums.campaigns)
    ∷ cell 8 (Some g.sums.kept.count) ∷ cell 7 g.sums.kept.first
    ∷ cell 8 (Some g.sums.broken.count) ∷ cell 7 g.sums.broken.first
    ∷ cell 9 (Some g.sums.disobeyed.count) ∷ cell 7 g.sums.disobeyed.first ∷ cell 8 (Some g.failed) ∷ []

-- Writes the table row of a group.
abbrev pub group_text : Group → List ℕ
group_text g = row_text (cells_of g)

-- Writes the first line of the table, which names the columns.
unfoldable pub header : List ℕ
header = codes " generals bound traitors campaigns     kept   first   broken   first disobeyed   first   failed\n"

-- Writes these groups as a table, with a row for each.
abbrev pub table_text : List Group → List ℕ
table_text groups = header ++ flat_map group_text groups
