-- The receivers of labels, and the empty rows of longer labels.
use Rattle.std.specs.Prelude.{ℕ, zero, suc, ◌==◌, not, List, [], ◌∷◌, filter, flat_map}
use Rattle.outbox.specs.Rows.{RowOrders, empty_row}

-- Returns the list without the general `j`.
abbrev pub struck : ℕ → List ℕ → List ℕ
struck j names = filter (λ x. not (x == j)) names

-- Returns the empty rows of the labels that extend a label by `more` different ones of its receivers, who are `names`.
abbrev pub rows_under : ℕ → List ℕ → List RowOrders
rows_under zero names = empty_row names ∷ []
rows_under (suc more) names = flat_map (λ j. rows_under more (struck j names)) names
