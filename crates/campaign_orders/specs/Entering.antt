-- How the outcomes found change when one more order of accesses is counted (own).
use Rattle.std.specs.Prelude.{ℕ, ◌+◌, cond, List, [], ◌∷◌, bytes_eq}
use Rattle.campaign_orders.specs.Exploring.{Finding}

-- Returns the outcomes found after one more order of accesses is counted, which leads to the decisions `ds`. If these
-- were found before, their count grows by 1. Otherwise they are appended, with this order as their example.
abbrev pub entered : List Finding → List ℕ → List (List ℕ) → List Finding
entered [] ds order = record { decisions = ds; count = 1; example = order } ∷ []
entered (f ∷ findings) ds order =
    cond (bytes_eq f.decisions ds) (record f { count = f.count + 1 } ∷ findings) (f ∷ entered findings ds order)
