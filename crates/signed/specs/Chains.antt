-- Chains: orders with signatures (TOPLAS 1982, section 4, algorithm SM(m)).
use Rattle.std.specs.Prelude.{ℕ, ◌≡◌, ◌==◌, cond, List, [], ◌∷◌, ◌++◌, map, Option, None, Some, ◌⊎◌}
use Rattle.label.specs.Labels.{on}
use Rattle.label.specs.Oral.{IsLabel}

-- A chain: an order and the generals who signed it, the first signature first.
pub record Chain : Type 0 where
  pub order : ℕ
  pub signers : List ℕ

-- States that different generals signed the chain, the commander first.
abbrev pub IsChain : ℕ → ℕ → Chain → Type 0
IsChain n c ch = IsLabel n c ch.signers

-- Returns the chain of this order with one signature, made by general `g`.
abbrev pub signed_alone : ℕ → ℕ → Chain
signed_alone order g = record { order = order; signers = g ∷ [] }

-- Returns the chain with one more signature, made by general `g`.
abbrev pub signed_also : Chain → ℕ → Chain
signed_also ch g = record { order = ch.order; signers = ch.signers ++ g ∷ [] }

-- Returns the chain of this order with one signature, made by general `g`, or `None` if he is not the commander.
abbrev pub begin : ℕ → ℕ → ℕ → Option Chain
begin c g order = cond (g == c) (Some (signed_alone order g)) None

-- Returns the chain with one more signature, made by general `g`, or `None` if he has already signed it.
abbrev pub prolong : Chain → ℕ → Option Chain
prolong ch g = cond (on ch.signers g) None (Some (signed_also ch g))

-- States that the list contains the chain.
abbrev pub Among : Chain → List Chain → Type 0
Among ch [] = ⊥
Among ch (x ∷ xs) = (x ≡ ch) ⊎ Among ch xs

-- Returns the orders of these chains.
abbrev pub orders : List Chain → List ℕ
orders xs = map (λ ch. ch.order) xs
