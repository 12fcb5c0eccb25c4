-- The counts of a survey's outcomes as CSV (RFC 4180, but with LF) (docs/FORMATS.md, "Surveys").
use Rattle.std.specs.Prelude.{ℕ, ◌/◌, ◌%◌, List, [], ◌++◌, flat_map, decimal, codes, Option, None, Some}
use Rattle.surveys.specs.declared.cell.NumberCell.{NumberCell}
use Rattle.surveys.specs.declared.group.Group.{Group}
use Rattle.surveys.specs.Tables.{cells_of}
use Rattle.surveys.specs.Wilson.{interval}

-- Writes a number in decimal, or nothing for `None`.
abbrev pub csv_number : Option ℕ → List ℕ
csv_number None = []
csv_number (Some number) = decimal number

-- Writes the number of a cell, or nothing if the cell is empty, and a comma.
abbrev pub csv_cell : NumberCell → List ℕ
csv_cell c = csv_number c.number ++ codes ","

-- Writes a share in ten-thousandths as a decimal fraction with four places: 625 gives `0.0625`.
abbrev pub share_text : ℕ → List ℕ
share_text q = decimal (q / 10000) ++ codes "." ++ decimal (q / 1000 % 10) ++ decimal (q / 100 % 10)
    ++ decimal (q / 10 % 10) ++ decimal (q % 10)

-- Writes the ends of an interval as decimal fractions with a comma between them, or only the comma if there is no
-- interval.
abbrev pub interval_text : Option (ℕ × ℕ) → List ℕ
interval_text None = codes ","
interval_text (Some ends) = share_text ends.0 ++ codes "," ++ share_text ends.1

-- Writes the CSV row of a group: its numbers as in the table, and Wilson's interval for the share of its failed
-- campaigns.
abbrev pub csv_row : Group → List ℕ
csv_row g = flat_map csv_cell (cells_of g) ++ interval_text (interval g.sums.campaigns g.failed) ++ codes "\n"

-- Writes the first line of the CSV text, which names the columns.
unfoldable pub csv_header : List ℕ
csv_header = codes "generals,bound,traitors,campaigns,kept,kept_first,broken,broken_first,disobeyed,"
    ++ codes "disobeyed_first,failed,failed_low,failed_high\n"

-- Writes these groups as CSV, with a row for each.
abbrev pub csv_text : List Group → List ℕ
csv_text groups = csv_header ++ flat_map csv_row groups
