-- The outcome of combining a list of orders, and the words that describe it.
use Rattle.std.specs.Prelude.{ℕ, List, ◌++◌, codes, Option, None, Some}
use Rattle.std.specs.Fmt.{decimal}
use Rattle.combine.specs.declared.outcome.Outcome.{Outcome}
use Rattle.combine.specs.declared.outcome.Outcome.TheVariants.{Agreed, Divided, Middle}

-- Returns the order of a majority as the outcome Agreed. If there is none, returns `other` as the outcome Divided.
abbrev pub agreed_or : ℕ → Option ℕ → Outcome
agreed_or other None = Divided other
agreed_or other (Some order) = Agreed order

-- Returns the order of an outcome.
abbrev pub outcome_order : Outcome → ℕ
outcome_order (Agreed order) = order
outcome_order (Divided order) = order
outcome_order (Middle order) = order

-- Returns the words that describe an outcome and are written before its order, such as `majority `.
abbrev pub outcome_head : Outcome → List ℕ
outcome_head (Agreed order) = codes "majority "
outcome_head (Divided order) = codes "no majority, so "
outcome_head (Middle order) = codes "median "

-- Returns the words that describe an outcome, with its order, such as `majority 1`.
abbrev pub outcome_words : Outcome → List ℕ
outcome_words outcome = outcome_head outcome ++ decimal (outcome_order outcome)
