-- How many orders the traitors of a plan can send at most, so that the numbers fit.
use Rattle.std.specs.Prelude.{ℕ, zero, suc, ◌+◌, ◌*◌, ◌≤◌, All, List}
use Rattle.lies.specs.declared.choice.Choice.{Choice}

-- Returns an upper bound on the orders other than RETREAT that traitors send for one choice with k relays left, among at
-- most 13 generals.
abbrev pub most_attacks : ℕ → ℕ
most_attacks zero = 1
most_attacks (suc k) = 1 + 13 * most_attacks k

-- States that each choice of a plan with k relays left keeps to this bound.
abbrev pub AreCheap : ℕ → List Choice → Type 0
AreCheap k plan = All (λ choice. choice.attacks ≤ most_attacks k) plan
