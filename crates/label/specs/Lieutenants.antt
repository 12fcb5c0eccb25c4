-- The lieutenants of a campaign and the list of their decisions (TOPLAS 1982, IC1 and IC2).
use Rattle.std.specs.Prelude.{ℕ, ◌<◌, ◌≡◌, Bool, false, List, [], ◌∷◌, length, slice_index}
use Rattle.label.specs.Labels.{others}

-- Returns the lieutenants of n generals with commander c, in ascending order.
abbrev pub lieutenants : ℕ → ℕ → List ℕ
lieutenants n c = others n (c ∷ [])

-- States that the list of lieutenants has the index i, and the lieutenant there is loyal.
pub record IsLoyalAt (n c : ℕ) (traitor : ℕ → Bool) (i : ℕ) : Type 0 where
  pub within : i < length (lieutenants n c)
  pub loyal : traitor (slice_index (lieutenants n c) i) ≡ false

-- States that in a list of decisions the loyal lieutenants decide alike, and obey the order of a loyal commander.
pub record AgreeInList (n c order : ℕ) (traitor : ℕ → Bool) (decisions : List ℕ) : Type 0 where
  pub alike : (i j : ℕ) → IsLoyalAt n c traitor i → IsLoyalAt n c traitor j →
      slice_index decisions i ≡ slice_index decisions j
  pub obeyed : traitor c ≡ false → (i : ℕ) → IsLoyalAt n c traitor i → slice_index decisions i ≡ order
