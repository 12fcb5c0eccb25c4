-- The chains by which a general accepts orders, collected one after another as in the code.
use Rattle.std.specs.Prelude.{ℕ, cond, List, [], ◌∷◌, ◌++◌}
use Rattle.label.specs.Labels.{on}
use Rattle.signed.specs.Chains.{Chain, orders}
use Rattle.signed.specs.Accepted.{counts}

-- Returns `chains` with `x` appended, unless one of them already has its order.
abbrev pub gathered_also : List Chain → Chain → List Chain
gathered_also chains x = cond (on (orders chains) x.order) chains (chains ++ x ∷ [])

-- Returns `chains` with those further chains appended that count for general `p` in round `k` and by which he accepts a
-- new order. A new order is one that no earlier chain has.
abbrev pub gathered : ℕ → ℕ → List Chain → List Chain → List Chain
gathered k p chains [] = chains
gathered k p chains (x ∷ xs) = gathered k p (cond (counts k p x) (gathered_also chains x) chains) xs
